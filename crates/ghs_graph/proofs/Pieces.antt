-- Pieces: what the length of the forest says of a graph.
use Rattle.std.proofs.Common.{◌≡◌, ℕ, ◌≤◌, ◌-◌, List, length, arith}
use Rattle.ghs_graph.specs.declared.key.Key.{Key}
use Rattle.ghs_graph.specs.declared.port.Port.{Port}
use Rattle.ghs_graph.specs.Links.{IsTree}
use Rattle.ghs_graph.specs.Graph.{Shape, IsGraph}
use Rattle.ghs_graph.specs.Layout.{AreLaid}
use Rattle.ghs_graph.specs.Built.{IsBuilt}
use Rattle.ghs_graph.proofs.lemmas.Components.{forest_has_fewer}
use Rattle.ghs_graph.specs.Components.{HasComponents, AreRoots}

-- by as many the links of the forest are fewer than the nodes
pub forest_fits : (g : Shape) (tree : List Key) → IsGraph g → IsTree g.keys tree → length tree ≤ g.nodes
forest_fits g tree ok t = let h = forest_has_fewer g ok in let e = (h.2 h.0 tree h.1 t).1 in omega (arith, e)

pub pieces_are : (g : Shape) (tree : List Key) (count : ℕ) → IsGraph g → IsTree g.keys tree → count ≡ g.nodes - length tree → HasComponents g count
pieces_are g tree count ok t is =
    let h = forest_has_fewer g ok in
    let e = (h.2 h.0 tree h.1 t).1 in
    let same : count ≡ h.0 = omega (arith, e, is) in
    rw same h.1

-- what a graph is built of: its links, the pieces that they make, and the ports
pub built : (n m : ℕ) (ks given laid_of : List Key) (starts rs : List ℕ) (ports : List Port) (count : ℕ) → n ≡ m
    → IsGraph (record { nodes = m; keys = ks }) → given ≡ ks → AreRoots (record { nodes = n; keys = given }) rs
    → HasComponents (record { nodes = n; keys = given }) count → laid_of ≡ ks → AreLaid n laid_of starts ports
    → IsBuilt (record { nodes = n; keys = ks }) starts ports rs count
built n m ks given laid_of starts rs ports count en ok eg roots components el laid = record {
  graph = rw en ok;
  laid = rw el at laid;
  roots = rw eg at roots;
  components = rw eg at components;
}
