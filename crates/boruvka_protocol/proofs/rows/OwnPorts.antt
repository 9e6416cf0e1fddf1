-- A node's own ports by the network's: how many they are, their keys, that it is an end of each, and which one.
use Rattle.std.proofs.Common.{◌≡◌, ℕ, ◌<◌, nat_lt, Bool, true, false, List, inl, inr, sym, ◌∙◌, ap, subst, ⊎_elim, ltb-true, arith}
use Rattle.std.proofs.lemmas.Bool.{ltb-false}
use Rattle.std.proofs.lemmas.List.{get_or-map}
use Rattle.std.specs.Prelude.{slice_index_or}
use Rattle.ghs_graph.specs.declared.key.Key.{Key}
use Rattle.ghs_graph.specs.declared.port.Port.{Port}
use Rattle.ghs_graph.specs.Graph.{Shape, IsGraph}
use Rattle.ghs_graph.specs.Key.{ends_at, no_key}
use Rattle.ghs_graph.specs.Ports.{far_end, no_port}
use Rattle.peer_network.specs.Network.{Network, network_of, port_at, At, far}
use Rattle.peer_network.proofs.lemmas.Graphs.{graph_wired, port_ends}
use Rattle.boruvka_node.specs.State.{State, degree, key_at}
use Rattle.boruvka_protocol.specs.Laws.{IsNodeOf}
use Rattle.boruvka_protocol.proofs.rows.Leaving.{end_there}
use Rattle.boruvka_protocol.proofs.follows.Ways.{far_by_link}

pub port_below : {g : Network} {v : ℕ} {n : State} → IsNodeOf g v n → (p : ℕ) → At g v p → p < degree n
port_below is p at = subst (λ x. p < x) (sym is.ports) at.port

-- the key that it has at a port is the link's
pub own_key : {g : Network} {v : ℕ} {n : State} → IsNodeOf g v n → (p : ℕ) → At g v p → key_at n p ≡ (port_at g v p).key
own_key {g} {v} is p at =
    ap (λ (ks : List Key). slice_index_or ks p no_key) is.keys ∙ get_or-map (λ (x : Port). x.key) (g.ports v) p no_port no_key at.port

pub own_end : (g : Shape) → IsGraph g → (v p : ℕ) → At (network_of g) v p → ends_at v (port_at (network_of g) v p).key ≡ true
own_end g ok v p at = end_there (far (network_of g) v p) v (port_at (network_of g) v p).key
    (⊎_elim (λ x. inr (x.1, x.0)) (λ x. inl (x.1, x.0)) (port_ends g ok v p at))

-- What the test of a core says.
module _ (gr : Shape) (ok : IsGraph gr) (v p : ℕ) (n : State) (is : IsNodeOf (network_of gr) v n) (at : At (network_of gr) v p) where
  test : (b : Bool) → nat_lt n.number (far_end n.number (key_at n p)) ≡ b → nat_lt v (far (network_of gr) v p) ≡ b
  test b t = subst (λ x. nat_lt v x ≡ b) (sym (far_by_link gr ok v p at))
      (subst (λ (x : Key). nat_lt v (far_end v x) ≡ b) (own_key is p at)
      (subst (λ x. nat_lt x (far_end x (key_at n p)) ≡ b) is.number t))

  pub is_lesser : nat_lt n.number (far_end n.number (key_at n p)) ≡ true → v < far (network_of gr) v p
  is_lesser t = ltb-true v (far (network_of gr) v p) (test true t)

  pub is_greater : nat_lt n.number (far_end n.number (key_at n p)) ≡ false → far (network_of gr) v p < v
  is_greater t =
      let le = ltb-false v (far (network_of gr) v p) (test false t) in
      let apart = (graph_wired gr ok).apart v p at in
      omega (arith, le, apart)
