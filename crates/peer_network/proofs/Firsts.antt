-- Which nodes are their own roots.
use Rattle.std.proofs.Common.{◌≡◌, ℕ, List, ◌==◌, subst}
use Rattle.std.proofs.lemmas.Bool.Decides.{same_from_decides, Decides-like, Decides-eqb}
use Rattle.ghs_graph.specs.Graph.{Shape}
use Rattle.ghs_graph.specs.declared.key.Key.{Key}
use Rattle.ghs_graph.specs.Components.{IsRoot}
use Rattle.ghs_graph.specs.Computing.{is_root}
use Rattle.ghs_graph.proofs.lemmas.Components.{root_is_one}
use Rattle.ghs_graph.proofs.lemmas.Computing.{root_tells}
use Rattle.peer_network.specs.Wakes.{is_first, FirstAreRoots}

pub first_are_roots : FirstAreRoots
unfolding is_first
first_are_roots g v = root_tells g.keys v v

-- a number is the root of a node where it is the one that is known
pub root_is : (ks : List Key) (v r u : ℕ) → IsRoot ks v r → (r == u) ≡ is_root ks v u
root_is ks v r u root = same_from_decides (r == u) (is_root ks v u)
    (Decides-like (r == u) (λ e. subst (λ x. IsRoot ks v x) e root) (λ own. root_is_one ks v r u root own) (Decides-eqb r u))
    (root_tells ks v u)

-- a node is in First where its root is the node itself
pub first_is : (g : Shape) (v r : ℕ) → IsRoot g.keys v r → (r == v) ≡ is_first g v
unfolding is_first
first_is g v r root = root_is g.keys v r v root
