-- Links of a graph by their keys, and by the ports of its network.
use Rattle.std.proofs.Common.{◌≡◌, ℕ, false, inl, inr, sym, ◌∙◌, subst, subst₂, ⊎_elim}
use Rattle.std.specs.List.{Contains}
use Rattle.ghs_graph.specs.declared.key.Key.{Key}
use Rattle.ghs_graph.specs.Key.{key_lt}
use Rattle.ghs_graph.specs.Graph.{Shape, IsGraph}
use Rattle.ghs_graph.specs.Ports.{port_number}
use Rattle.peer_network.specs.Network.{Network, network_of, port_at, At, far, far_port}
use Rattle.ghs_node.specs.NodeState.{mark_at}
use Rattle.ghs_node.specs.declared.mark.Mark.TheVariants.{Branch}
use Rattle.ghs_protocol.specs.Net.{Net}
use Rattle.ghs_protocol.specs.Marks.{IsJoined, IsJoinedLink}
use Rattle.ghs_protocol.specs.Merging.{Fragments, Between, IsLeastOut}
use Rattle.ghs_protocol.proofs.clauses.Growing.{LeastPort}
use Rattle.peer_network.proofs.lemmas.Graphs.{graph_wired, graph_keyed, is_key, port_ends}
use Rattle.ghs_protocol.proofs.every_run.Trees.{at_a, key_there, far_there}

-- the port of node s over link j, which leads to t
pub record Dart (g : Network) (j : Key) (s t : ℕ) : Type 0 where
  pub port : ℕ
  pub at : At g s port
  pub key : (port_at g s port).key ≡ j
  pub leads : far g s port ≡ t

module _ (s : Shape) (ok : IsGraph s) where
  abbrev g : Network
  g = network_of s

  from_a : (j : Key) → Contains s.keys j → Dart (network_of s) j j.a j.b
  from_a j has = record { port = port_number s.keys j.a j; at = at_a s ok j has; key = key_there s ok j has; leads = far_there s ok j has }

  back : (j : Key) (u v : ℕ) → Dart (network_of s) j u v → Dart (network_of s) j v u
  back j u v d =
      let w = graph_wired s ok in
      subst (λ y. Dart g j y u) d.leads
      (record {
        port = far_port g u d.port;
        at = w.there u d.port d.at;
        key = w.same_key u d.port d.at ∙ d.key;
        leads = w.back u d.port d.at;
      })

  pub dart : (j : Key) (u v : ℕ) → Contains s.keys j → Between j u v → Dart (network_of s) j u v
  dart j u v has ends =
      ⊎_elim (λ e. subst₂ (Dart g j) e.0 e.1 (from_a j has)) (λ e. subst₂ (Dart g j) e.1 e.0 (back j j.a j.b (from_a j has))) ends

  pub between : (v p : ℕ) → At (network_of s) v p → Between (port_at (network_of s) v p).key v (far (network_of s) v p)
  between v p at = ⊎_elim (λ e. inl (sym e.0, sym e.1)) (λ e. inr (sym e.1, sym e.0)) (port_ends s ok v p at)

  -- a joined link is joined at each of its ports
  pub joined_at : (w : Net) (v p : ℕ) → At (network_of s) v p → IsJoinedLink (network_of s) w (port_at (network_of s) v p).key →
      IsJoined (network_of s) w v p
  joined_at w v p at (t, i, at', e, m) =
      ⊎_elim (λ h. subst₂ (IsJoined (network_of s) w) h.0 h.1 m)
      (λ h. subst₂ (IsJoined (network_of s) w) h.0 h.1 (
        m.1,
        subst₂ (λ a b. mark_at (w.node a) b ≡ Branch)
            (sym ((graph_wired s ok).back t i at')) (sym ((graph_wired s ok).back_port t i at')) m.0,
      ))
      (graph_keyed s ok t i v p at' at e)

  -- the least link that leads out, in both ways to say it
  pub least_out : (frag : ℕ → ℕ) (m : Fragments) →
      ((u v : ℕ) → m.fragment u ≡ m.fragment v → frag u ≡ frag v) →
      ((u v : ℕ) → frag u ≡ frag v → m.fragment u ≡ m.fragment v) →
      (v p : ℕ) → LeastPort (network_of s) frag v p →
      IsLeastOut s.keys m v (far (network_of s) v p) (port_at (network_of s) v p).key
  least_out frag m from to v p h = record {
    link = is_key s ok v p h.at;
    ends = between v p h.at;
    out = λ e. h.out (from _ _ e);
    least = λ j t x has ends same away.
        let d = dart j t x has ends in
        subst (λ k. key_lt k (port_at g v p).key ≡ false) d.key
        (h.least t d.port d.at (from t v same) (λ e. away (to x v (subst (λ y. frag y ≡ frag v) d.leads e))));
  }
