use Rattle.peer_hand.specs.Timed.{HasNoTime, IsTimedText}
use Rattle.peer_hand.proofs.lemmas.Handing.{handed}
use Rattle.peer_hand.proofs.timed.hand_timed.Goals as goal

pub returns : goal.returns
returns g c =
    let a = c.args in
    let r = g.P.Protocol.rules in
    handed (λ text. text.items) (IsTimedText r g.P.Ends.has_ended a.protocol a.wake a.graph.now a.seed)
    (HasNoTime r g.P.Ends.has_ended a.wake a.graph.now a.seed)
    c.timed_of.result _ _ _ c.timed_of.ensures.text c.timed_of.ensures.fault tt c.hand_over.ensures
