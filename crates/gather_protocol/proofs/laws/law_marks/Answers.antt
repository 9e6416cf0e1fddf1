use Rattle.gather_protocol.proofs.Found.{halted_mark_trees, others_mark_none}
use Rattle.gather_protocol.proofs.laws.law_marks.Goals as goal

pub returns : goal.returns
returns c = record { halted = halted_mark_trees; others = others_mark_none }
