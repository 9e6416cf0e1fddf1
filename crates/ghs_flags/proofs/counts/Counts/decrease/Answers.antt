use Rattle.std.proofs.Common.{◌∙◌, arith}
use Rattle.std.proofs.lemmas.List.{get_or_default}
use Rattle.ghs_flags.proofs.Towers.{tower_set, group_ge, region_ge, zone_ge, total_ge}
use Rattle.ghs_flags.proofs.counts.Counts.decrease.Goals as goal

pub overflow_sub-index_mut-2 : goal.overflow_sub-index_mut-2
overflow_sub-index_mut-2 c =
    let some = rw (← c.self.view_is) at c.requires.some in
    let ge = group_ge c.self.invariant c.args.at (rw c.self.view_is c.requires.within) _ c.index_mut-2.ensures.value in
    omega arith

pub overflow_sub-index_mut-3 : goal.overflow_sub-index_mut-3
overflow_sub-index_mut-3 c =
    let some = rw (← c.self.view_is) at c.requires.some in
    let ge = region_ge c.self.invariant c.args.at (rw c.self.view_is c.requires.within) _ c.index_mut-3.ensures.value in
    omega arith

pub overflow_sub-index_mut-4 : goal.overflow_sub-index_mut-4
overflow_sub-index_mut-4 c =
    let some = rw (← c.self.view_is) at c.requires.some in
    let ge = zone_ge c.self.invariant c.args.at (rw c.self.view_is c.requires.within) _ c.index_mut-4.ensures.value in
    omega arith

pub invariant_of-self : goal.invariant_of-self
invariant_of-self c =
    let lt = rw (← c.self.view_is) at c.requires.within in
    let some = rw (← c.self.view_is) at c.requires.some in
    let here = c.index_mut.ensures.value ∙ get_or_default _ _ _ 0 lt in
    let group = group_ge c.self.invariant c.args.at lt _ c.index_mut-2.ensures.value in
    let region = region_ge c.self.invariant c.args.at lt _ c.index_mut-3.ensures.value in
    let zone = zone_ge c.self.invariant c.args.at lt _ c.index_mut-4.ensures.value in
    let total = total_ge c.self.invariant c.args.at lt in
    tower_set c.self.invariant c.args.at lt _ _ _ _ _ _ _ _ _ c.index_mut.ensures.value c.index_mut-2.ensures.value c.index_mut-3.ensures.value
    c.index_mut-4.ensures.value (omega arith) (omega arith) (omega arith) (omega arith) (omega arith)
