-- Where the numbers of a graph are kept.
use Rattle.std.proofs.Common.{◌≤◌, ◌<◌, List, ℕ, ◌∙◌, arith, length, refl}
use Rattle.std.specs.List.{All}
use Rattle.ghs_graph.specs.Graph.{Shape, IsGraph}
use Rattle.peer_network.specs.Network.{At, far, far_port, network_of}
use Rattle.peer_network.proofs.lemmas.Graphs.{graph_wired}
use Rattle.peer_chains.specs.Kept.{Fits, HasPlace, Kept, SamePlaces}

pub same_then : (a b c : Kept) → SamePlaces a b → SamePlaces b c → SamePlaces a c
same_then a b c s t = record {
  numbers = t.numbers ∙ s.numbers;
  rows = t.rows ∙ s.rows;
  ports = λ v. t.ports v ∙ s.ports v;
}

pub same_alike : (a : Kept) → SamePlaces a a
same_alike a = record { numbers = refl; rows = refl; ports = λ v. refl }

pub place_kept : (a b : Kept) (v p : ℕ) → SamePlaces a b → HasPlace a v p → HasPlace b v p
place_kept a b v p s h = record {
  node = let x = h.node in let y = s.numbers in omega arith;
  row = let x = h.row in let y = s.rows in omega arith;
  port = let x = h.port in let y = s.ports v in omega arith;
}

pub fits_kept : (g : Shape) (k k' : Kept) → SamePlaces k k' → Fits g k → Fits g k'
fits_kept g k k' p f = record { numbers = p.numbers ∙ f.numbers; rows = p.rows ∙ f.rows; ports = λ v lo hi. p.ports v ∙ f.ports v lo hi }

-- a port of the graph is kept
pub place_at : (g : Shape) (k : Kept) (v p : ℕ) → Fits g k → At (network_of g) v p → HasPlace k v p
place_at g k v p f at = record {
  node = let a = f.numbers in let b = at.node in omega (arith, a, b);
  row = let a = f.rows in let b = at.node in omega (arith, a, b);
  port = let a = f.ports v at.some at.node in let b = at.port in omega (arith, a, b);
}

-- so is each port to which a node's messages come
pub far_kept : {M : Type 0} (g : Shape) (k : Kept) (v : ℕ) (ss : List (ℕ × M)) → IsGraph g → Fits g k → 1 ≤ v → v ≤ g.nodes →
    All (λ (s : ℕ × M). s.0 < length ((network_of g).ports v)) ss →
    All (λ (s : ℕ × M). HasPlace k (far (network_of g) v s.0) (far_port (network_of g) v s.0)) ss
far_kept g k v ss graph fits low high on i x lt =
    place_at g k _ _ fits ((graph_wired g graph).there v _ (record { some = low; node = high; port = on i x lt }))
