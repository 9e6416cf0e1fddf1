use Rattle.std.proofs.Common.{Vec, Global}
use Rattle.ghs_core.specs.declared.census.FragmentRow.{FragmentRow}
use Rattle.ghs_core.proofs.CensusRows.{have_roots, census_told, large_told}
use Rattle.ghs_core.proofs.net.Net.census.Goals as goal

pub count_classes-requires : goal.count_classes-requires
count_classes-requires c =
    rw (c.deref.ensures.value, c.deref-2.ensures.value)
    (have_roots c.self.invariant c.in_ok-roots.roots.items (rw (← c.self.view_is) at c.in_ok-roots.ensures))

pub returns-clause-census : goal.returns-clause-census
returns-clause-census c =
    let tell = rw (← c.self.view_is) at c.in_ok-roots.ensures in
    let counted = rw (c.deref.ensures.value, c.deref-2.ensures.value) at c.count_classes.ensures in
    rw (← c.self.view_is)
    (census_told c.self.invariant c.in_ok-roots.roots.items tell (λ (v : Vec FragmentRow Global). v.items) c.count_classes.result counted)

pub returns-clause-large : goal.returns-clause-large
returns-clause-large c =
    let tell = rw (← c.self.view_is) at c.in_ok-roots.ensures in
    let counted = rw (c.deref.ensures.value, c.deref-2.ensures.value) at c.count_classes.ensures in
    let census =
    census_told c.self.invariant c.in_ok-roots.roots.items tell (λ (v : Vec FragmentRow Global). v.items) c.count_classes.result counted
    in
    large_told c.self.invariant (λ (v : Vec FragmentRow Global). v.items) c.count_classes.result census
