use Rattle.std.proofs.Common.{◌≡◌, ℕ, sym, ap, ◌∙◌}
use Rattle.ghs_graph.specs.Graph.{Shape}
use Rattle.ghs_pool.proofs.Publishing.{goes_made, goes_on, goes_still}
use Rattle.ghs_pool.proofs.floor.Floor.make.Goals as goal

-- as many nodes, since the graph stays
nodes_stay : (notes : ℕ) (old new : Shape) → notes ≡ old.nodes → new ≡ old → notes ≡ new.nodes
nodes_stay notes old new is same = is ∙ sym (ap (λ (g : Shape). g.nodes) same)

pub invariant_of-self : goal.invariant_of-self
invariant_of-self g c =
    let ok = c.in-Ok.ensures in
    (goes_on _ _ _ c.self.invariant.0 (goes_made _ _ _ ok.made ok.published), nodes_stay _ _ _ c.self.invariant.1 ok.made.graph)

pub invariant_of-self-in-Err : goal.invariant_of-self-in-Err
invariant_of-self-in-Err g c =
    let err = c.in-Err.ensures in
    (goes_on _ _ _ c.self.invariant.0 (goes_still _ _ err.err err.unpublished), nodes_stay _ _ _ c.self.invariant.1 err.err.net.graph)
