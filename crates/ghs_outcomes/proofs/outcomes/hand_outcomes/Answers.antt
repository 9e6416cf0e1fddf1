use Rattle.std.proofs.Common.{ℕ, List}
use Rattle.ghs_graph.specs.Graph.{Shape}
use Rattle.peer_hand.specs.Texts.{HasNoGraph, IsTextOf}
use Rattle.peer_hand.proofs.lemmas.Handing.{handed}
use Rattle.ghs_outcomes.specs.Limit.{at_least_1}
use Rattle.ghs_outcomes.specs.Outcomes.{IsTold, explores_by}
use Rattle.ghs_outcomes.proofs.outcomes.hand_outcomes.Goals as goal

pub returns : goal.returns
returns c =
    let a = c.args in
    handed (λ text. text.items)
    (λ (t : List ℕ). (g : Shape) × IsTextOf a.graph.now g × IsTold (explores_by a.protocol) g a.wake (at_least_1 a.limit) t)
    (HasNoGraph a.graph.now)
    c.answer_of.result _ _ _ (rw c.at_least_1.ensures.is at c.answer_of.ensures.text) c.answer_of.ensures.fault tt c.hand_over.ensures
