use Rattle.std.proofs.Common.{arith}
use Rattle.ghs_flags.proofs.Towers.{tower_set}
use Rattle.ghs_flags.proofs.counts.Counts.increase.Goals as goal

pub invariant_of-self : goal.invariant_of-self
invariant_of-self c =
    let room = rw (← c.self.view_is) at c.requires.room in
    tower_set c.self.invariant c.args.at (rw c.self.view_is c.requires.within) _ _ _ _ _ _ _ _ _ c.index_mut.ensures.value c.index_mut-2.ensures.value
    c.index_mut-3.ensures.value c.index_mut-4.ensures.value (omega arith) (omega arith) (omega arith) (omega arith) (omega arith)
