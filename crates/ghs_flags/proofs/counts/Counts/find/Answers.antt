use Rattle.std.proofs.Common.{arith}
use Rattle.ghs_flags.proofs.Towers.{sum_zones}
use Rattle.ghs_flags.proofs.counts.Counts.find.Goals as goal

pub find_from-zone-requires : goal.find_from-zone-requires
find_from-zone-requires c =
    let same = sum_zones c.self.invariant in
    let passed = rw (← c.self.view_is) at c.requires in
    rw c.deref.ensures.value (omega arith)
