use Rattle.ghs_hand.specs.Timed.{HasNoTime, IsTimedText}
use Rattle.peer_hand.proofs.lemmas.Handing.{handed}
use Rattle.ghs_hand.proofs.timed.hand_timed.Goals as goal

pub returns : goal.returns
returns c =
    let a = c.args in
    handed (λ text. text.items) (IsTimedText a.wake a.graph.now a.seed) (HasNoTime a.wake a.graph.now a.seed)
    c.timed_of.result _ _ _ c.timed_of.ensures.text c.timed_of.ensures.fault tt c.hand_over.ensures
