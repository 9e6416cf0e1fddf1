use Rattle.std.proofs.Common.{sym, subst, List}
use Rattle.ghs_graph.specs.declared.key.Key.{Key}
use Rattle.ghs_graph.specs.Graph.{NODE_LIMIT}
use Rattle.ghs_graph.specs.Links.{AreAmong, IsTree}
use Rattle.gather_node.specs.Ordered.{AreInOrder}
use Rattle.gather_node.proofs.Orders.{forest_made, links_among}
use Rattle.gather_node.proofs.forest.forest_of.Goals as goal

pub greatest_end-nodes-requires : goal.greatest_end-nodes-requires
greatest_end-nodes-requires c =
    subst (λ (ks : List Key). AreAmong NODE_LIMIT ks) (sym c.deref-2.ensures.value) (links_among _ _ c.in_ok-keys.ensures)

pub returns : goal.returns
returns c =
    forest_made c.args.links.items c.sort-sorted.result.items c.in_ok-keys.keys.items c.in_ok-span.field-0.tree.items c.sort-sorted.ensures.same
    (subst (λ (ks : List Key). AreInOrder ks c.in_ok-keys.keys.items) c.deref.ensures.value c.in_ok-keys.ensures)
    (subst (λ (ks : List Key). IsTree ks c.in_ok-span.field-0.tree.items) c.deref-3.ensures.value c.in_ok-span.ensures.tree)
