use Rattle.std.proofs.Common.{◌∙◌}
use Rattle.ghs_flags.proofs.Counted.{sum_blocks}
use Rattle.ghs_flags.proofs.flags.Flags.count.Goals as goal

pub returns : goal.returns
returns c = rw (← c.self.view_is) (c.total.ensures ∙ sum_blocks c.self.invariant)
