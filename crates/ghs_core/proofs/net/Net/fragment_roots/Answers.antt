use Rattle.std.proofs.Common.{◌+◌, ◌∙◌, ap, length, ℕ, List}
use Rattle.ghs_core.proofs.Fragments.{have_ports, joined_rising, joined_among, roots_tell}
use Rattle.ghs_core.proofs.net.Net.fragment_roots.Goals as goal

pub branch_links-requires : goal.branch_links-requires
branch_links-requires c = rw c.deref.ensures.value (have_ports c.self.invariant)

pub span-requires-clause-rising : goal.span-requires-clause-rising
span-requires-clause-rising c =
    let joined = c.deref-2.ensures.value ∙ rw c.deref.ensures.value at c.in_ok-joined.ensures in
    rw joined (joined_rising c.self.invariant)

pub span-requires-clause-among : goal.span-requires-clause-among
span-requires-clause-among c =
    let joined = c.deref-2.ensures.value ∙ rw c.deref.ensures.value at c.in_ok-joined.ensures in
    rw (joined, c.nodes.ensures.nodes) (joined_among c.self.invariant)

pub returns : goal.returns
returns c =
    let joined = c.deref-2.ensures.value ∙ rw c.deref.ensures.value at c.in_ok-joined.ensures in
    let told = rw joined at c.in_ok-spanning.ensures.told in
    let count =
    ap (λ (rs : List ℕ). length rs) c.settled.ensures.roots ∙ c.in_ok-spanning.ensures.count ∙ ap (λ (n : ℕ). n + 1) c.nodes.ensures.nodes in
    rw (← c.self.view_is)
    (roots_tell c.self.invariant c.settled.result.items count (rw (← c.settled.ensures.roots) at told)
    (rw (← c.settled.ensures.roots) at c.settled.ensures.least))
