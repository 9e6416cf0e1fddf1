use Rattle.std.proofs.Common.{arith}
use Rattle.ghs_flags.proofs.Counted.{sum_blocks}
use Rattle.ghs_flags.proofs.flags.Flags.kth.Goals as goal

pub find-block-requires : goal.find-block-requires
find-block-requires c =
    let all = sum_blocks c.self.invariant in
    let some = rw (← c.self.view_is) at c.requires in
    omega arith
