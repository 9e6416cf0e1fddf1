-- The keys that a text gives as triples make a graph.
use Rattle.std.proofs.Common.{◌≡◌, ℕ, ◌<◌, ◌≤◌, List, map, length, get_or, arith, true}
use Rattle.std.proofs.lemmas.List.{get_or-map, length-map}
use Rattle.std.proofs.lemmas.List.Elements.{All-map}
use Rattle.ghs_gr.specs.RawGraph.{Triple, IsRawGraph}
use Rattle.ghs_graph.specs.declared.key.Key.{Key}
use Rattle.ghs_graph.specs.Key.{key_of, key_lt}
use Rattle.ghs_graph.specs.Links.{IsRising}
use Rattle.ghs_graph.specs.Graph.{IsGraph}

abbrev pub no_triple : Triple
no_triple = (0, 0, 0)

rising_map : (ts : List Triple) → ((i j : ℕ) (d : Triple) → i < j → j < length ts → key_lt (key_of (get_or ts i d)) (key_of (get_or ts j d)) ≡ true)
    → IsRising (map key_of ts)
rising_map ts r i j d lt jl =
    let len = length-map ts key_of in
    rw (get_or-map key_of ts i no_triple d (omega arith), get_or-map key_of ts j no_triple d (omega arith)) (r i j no_triple lt (omega arith))

pub graph_of : (n : ℕ) (ts : List Triple) → IsRawGraph n ts → IsGraph (record { nodes = n; keys = map key_of ts })
graph_of n ts r = record {
  some = r.some;
  nodes = r.nodes;
  links = omega (arith, length-map ts key_of, r.links);
  among = All-map (λ (k : Key). (1 ≤ k.a) × (k.a < k.b) × (k.b ≤ n)) key_of ts r.within;
  rising = rising_map ts r.rising;
}
