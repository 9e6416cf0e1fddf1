use Rattle.ghs_patient.proofs.lemmas.Walks.{IsFrom}
use Rattle.ghs_orders.specs.Marks.{AreMarksBut}
use Rattle.ghs_orders.proofs.waiting.Waiting.of.Given as goal

abbrev pub invariant-loop-v : goal.invariant-loop-v
invariant-loop-v l = AreMarksBut l.world (IsFrom l.v) l.waiting
