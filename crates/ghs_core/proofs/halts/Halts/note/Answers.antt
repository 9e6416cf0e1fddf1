use Rattle.ghs_core.proofs.halts.Halts.note.Goals as goal

pub returns-then-has_halted : goal.returns-then-has_halted
returns-then-has_halted c = λ halted are. rw c.if-has_halted.true (c.add.ensures halted are)
