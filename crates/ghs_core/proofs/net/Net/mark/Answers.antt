use Rattle.std.proofs.Common.{ap, sym, ◌∙◌}
use Rattle.ghs_node.specs.NodeState.{mark_at}
use Rattle.ghs_core.proofs.Reading.{node_found, port_below}
use Rattle.ghs_core.proofs.Interleaved.{inside_fragment, branch_tree, rejected_tree}
use Rattle.ghs_core.proofs.net.Net.mark.Goals as goal

pub mark-requires : goal.mark-requires
mark-requires c = port_below c.self.invariant c.args.v c.args.port c.index.result.now (rw (← c.self.view_is) at c.requires) c.index.ensures

pub returns-clause-inside : goal.returns-clause-inside
returns-clause-inside c =
    let k = c.self.invariant in
    let at = rw (← c.self.view_is) at c.requires in
    let node = node_found k c.args.v c.index.result.now at.some at.node c.index.ensures in
    λ rejected.
    rw (← c.self.view_is)
    (inside_fragment _ _ k.graph k.run c.args.v c.args.port at (sym (c.mark.ensures ∙ ap (λ n. mark_at n c.args.port) node) ∙ rejected))

pub returns-clause-tree : goal.returns-clause-tree
returns-clause-tree c =
    let k = c.self.invariant in
    let at = rw (← c.self.view_is) at c.requires in
    let node = node_found k c.args.v c.index.result.now at.some at.node c.index.ensures in
    λ marked.
    rw (← c.self.view_is)
    (branch_tree _ _ k.graph k.run c.args.v c.args.port at (sym (c.mark.ensures ∙ ap (λ n. mark_at n c.args.port) node) ∙ marked))

pub returns-clause-aside : goal.returns-clause-aside
returns-clause-aside c =
    let k = c.self.invariant in
    let at = rw (← c.self.view_is) at c.requires in
    let node = node_found k c.args.v c.index.result.now at.some at.node c.index.ensures in
    λ rejected.
    rw (← c.self.view_is)
    (rejected_tree _ _ k.graph k.run c.args.v c.args.port at (sym (c.mark.ensures ∙ ap (λ n. mark_at n c.args.port) node) ∙ rejected))
