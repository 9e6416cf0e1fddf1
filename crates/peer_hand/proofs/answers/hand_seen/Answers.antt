use Rattle.peer_hand.specs.Answers.{IsToldOf}
use Rattle.peer_hand.specs.Led.{LeadsNowhere}
use Rattle.peer_hand.proofs.lemmas.Handing.{handed}
use Rattle.peer_hand.proofs.answers.hand_seen.Goals as goal

pub returns : goal.returns
returns g c =
    let a = c.args in
    let r = g.P.Protocol.rules in
    handed (λ text. text.items)
    (IsToldOf r g.P.Spoken.words g.P.Viewed.looks g.P.Protocol.bound g.P.Ends.has_ended a.protocol a.wake a.graph.now a.trace.now)
    (LeadsNowhere r a.protocol a.wake a.graph.now a.trace.now)
    c.seen_of.result _ _ _ c.seen_of.ensures.text c.seen_of.ensures.fault tt c.hand_over.ensures
