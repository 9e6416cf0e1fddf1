use Rattle.ghs_patient.specs.Choices.{AreChoicesBut}
use Rattle.ghs_patient.proofs.lemmas.Walks.{IsFrom}
use Rattle.ghs_patient.proofs.choices.Choices.of.Given as goal

abbrev pub invariant-loop-v : goal.invariant-loop-v
invariant-loop-v l = AreChoicesBut l.world (IsFrom l.v) l.choices
