use Rattle.std.proofs.Common.{Vec, Global}
use Rattle.ghs_graph.specs.declared.key.Key.{Key}
use Rattle.ghs_core.proofs.Fragments.{have_ports, branches_told}
use Rattle.ghs_core.proofs.Interleaved.{all_in_tree, all_of_tree}
use Rattle.ghs_core.proofs.net.Net.branches.Goals as goal

pub branch_links-requires : goal.branch_links-requires
branch_links-requires c = rw c.deref.ensures.value (have_ports c.self.invariant)

pub returns-clause-links : goal.returns-clause-links
returns-clause-links c =
    rw (← c.self.view_is) (branches_told c.self.invariant (λ (v : Vec Key Global). v.items) c.branch_links.result
    (rw c.deref.ensures.value at c.branch_links.ensures))

pub returns-clause-tree : goal.returns-clause-tree
returns-clause-tree c =
    let k = c.self.invariant in
    rw (← c.self.view_is)
    (all_in_tree _ _ k.graph k.run c.branch_links.result (λ (v : Vec Key Global). v.items)
    (branches_told c.self.invariant (λ (v : Vec Key Global). v.items) c.branch_links.result
    (rw c.deref.ensures.value at c.branch_links.ensures)))

pub returns-clause-forest : goal.returns-clause-forest
returns-clause-forest c =
    let k = c.self.invariant in
    rw (← c.self.view_is)
    (all_of_tree _ _ k.graph k.run c.branch_links.result (λ (v : Vec Key Global). v.items)
    (branches_told c.self.invariant (λ (v : Vec Key Global). v.items) c.branch_links.result
    (rw c.deref.ensures.value at c.branch_links.ensures)))
