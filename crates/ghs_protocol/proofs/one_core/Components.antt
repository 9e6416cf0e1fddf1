-- All nodes of a component are merged to one level and one core; so two runs that halt there agree.
use Rattle.std.proofs.Common.{◌≡◌, ℕ, ◌≤◌, Option, List, inl, inr, refl, sym, ◌∙◌, arith}
use Rattle.ghs_graph.specs.declared.key.Key.{Key}
use Rattle.ghs_graph.specs.Graph.{Shape, IsGraph}
use Rattle.ghs_graph.specs.Links.{Joined, Same, Over, Back, links}
use Rattle.ghs_protocol.specs.Merging.{Fragments, singles, one_connect, IsWhole}
use Rattle.ghs_protocol.specs.Cores.{MergesTo, OneCore}
use Rattle.ghs_protocol.proofs.merging.OneEnd.{merging_even, singles_even}
use Rattle.ghs_protocol.proofs.one_core.Runs.{halted_merges_to, merges_alike}
use Rattle.peer_network.proofs.lemmas.Graphs.{link_among}

-- links don't leave the graph
pub joined_in : (s : Shape) → IsGraph s → {v u : ℕ} → Joined (links s.keys) v u → (1 ≤ v) × (v ≤ s.nodes) → (1 ≤ u) × (u ≤ s.nodes)
joined_in s ok Same h = h
joined_in s ok (Over k has j) h =
    let e = link_among s ok k has in
    joined_in s ok j (omega arith, omega arith)
joined_in s ok (Back k has j) h =
    let e = link_among s ok k has in
    joined_in s ok j (omega arith, omega arith)

-- nor a whole fragment
pub joined_whole : (ks : List Key) (m : Fragments) (x : ℕ) → IsWhole ks m x → {v u : ℕ} → Joined (links ks) v u →
    m.fragment v ≡ m.fragment x → m.fragment u ≡ m.fragment x
joined_whole ks m x whole Same e = e
joined_whole ks m x whole (Over k has j) e = joined_whole ks m x whole j (whole k k.a k.b has (inl (refl, refl)) e)
joined_whole ks m x whole (Back k has j) e = joined_whole ks m x whole j (whole k k.b k.a has (inr (refl, refl)) e)

pub merges_there : (s : Shape) (v u l : ℕ) (c : Option Key) → Joined (links s.keys) v u → MergesTo s v l c → MergesTo s u l c
merges_there s v u l c j m =
    let e : m.to.fragment u ≡ m.to.fragment v = joined_whole s.keys m.to v m.whole j refl in
    let z = merging_even s.keys one_connect singles m.links m.connects m.to m.way singles_even u v e in
    record {
      links = m.links;
      connects = m.connects;
      to = m.to;
      way = m.way;
      whole = λ k a b has ends f. m.whole k a b has ends (f ∙ e) ∙ sym e;
      level = z.0 ∙ m.level;
      core = z.1 ∙ m.core;
    }

pub one_core_of_all : OneCore
one_core_of_all g w w' n n' v u lo hi j h h' =
    let b = joined_in g n.graph j (lo, hi) in
    merges_alike g u _ _ _ _ (merges_there g v u _ _ j (halted_merges_to g w n v lo hi h)) (halted_merges_to g w' n' u b.0 b.1 h')
