use Rattle.ghs_hand.specs.Answers.{IsToldOf}
use Rattle.ghs_hand.specs.Led.{LeadsNowhere}
use Rattle.peer_hand.proofs.lemmas.Handing.{handed}
use Rattle.ghs_hand.proofs.answers.hand_seen.Goals as goal

pub returns : goal.returns
returns c =
    let a = c.args in
    handed (λ text. text.items) (IsToldOf a.wake a.graph.now a.trace.now) (LeadsNowhere a.wake a.graph.now a.trace.now)
    c.seen_of.result _ _ _ c.seen_of.ensures.text c.seen_of.ensures.fault tt c.hand_over.ensures
