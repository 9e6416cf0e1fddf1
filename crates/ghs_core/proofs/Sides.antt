-- A link's two sides, and how they are marked.
use Rattle.std.proofs.Common.{◌≡◌, ℕ, ◌⊎◌, inl, inr, refl, sym, ◌∙◌, ap, ap₂, ⊎_elim, arith, ne_eqb, eq-eqb}
use Rattle.std.specs.List.{Contains}
use Rattle.std.proofs.lemmas.Option.{slice_get_within, slice_get-get_or, get_or_from_slice_get}
use Rattle.ghs_graph.specs.declared.key.Key.{Key}
use Rattle.ghs_graph.specs.declared.port.Port.{Port}
use Rattle.ghs_graph.specs.Graph.{Shape, IsGraph}
use Rattle.ghs_graph.specs.Laws.{HasTwoPorts}
use Rattle.ghs_graph.specs.Ports.{ports_of, port_number, far_end, port_on, no_port}
use Rattle.ghs_graph.proofs.lemmas.Ports.{links_have_two_ports}
use Rattle.ghs_node.specs.declared.mark.Mark.TheVariants.{Branch}
use Rattle.ghs_node.specs.NodeState.{mark_at}
use Rattle.peer_network.specs.Network.{Network, network_of, At, port_at, far, far_port}
use Rattle.ghs_protocol.specs.Net.{Net}
use Rattle.ghs_protocol.specs.Marks.{IsBranchLink, IsJoined, IsJoinedLink}
use Rattle.peer_network.proofs.lemmas.Graphs.{link_among}

module _ (g : Shape) (ok : IsGraph g) (k : Key) (in_graph : Contains g.keys k) where
  abbrev net : Network
  net = network_of g

  two : HasTwoPorts g.keys k
  two = links_have_two_ports g ok k in_graph

  abbrev pa : ℕ
  pa = port_number g.keys k.a k

  abbrev pb : ℕ
  pb = port_number g.keys k.b k

  -- one end, with its port on the link
  pub record Side (v p u r : ℕ) : Type 0 where
    pub at : At net v p
    pub key : (port_at net v p).key ≡ k
    pub far : far net v p ≡ u
    pub far_port : far_port net v p ≡ r

  pub side_a : Side k.a pa k.b pb
  side_a =
      let is : port_at net k.a pa ≡ port_on g.keys k.a k =
      get_or_from_slice_get (ports_of g.keys k.a) (port_number g.keys k.a k) (port_on g.keys k.a k) no_port two.at_a in
      let other : far_end k.a k ≡ k.b = rw (eq-eqb k.a k.a refl) refl in
      record {
        at =
            let r = link_among g ok k in_graph in
            record {
              some = r.0;
              node = omega (arith, r.1, r.2);
              port = slice_get_within (ports_of g.keys k.a) (port_number g.keys k.a k) (port_on g.keys k.a k) two.at_a;
            };
        key = ap (λ (x : Port). x.key) is;
        far = ap (λ (x : Port). x.far) is ∙ other;
        far_port = ap (λ (x : Port). x.far_port) is ∙ ap (λ (v : ℕ). port_number g.keys v k) other;
      }

  pub side_b : Side k.b pb k.a pa
  side_b =
      let is : port_at net k.b pb ≡ port_on g.keys k.b k =
      get_or_from_slice_get (ports_of g.keys k.b) (port_number g.keys k.b k) (port_on g.keys k.b k) no_port two.at_b in
      let other : far_end k.b k ≡ k.a = let r = link_among g ok k in_graph in rw (ne_eqb k.a k.b (λ z. absurd (omega (arith, r.1, z)))) refl in
      record {
        at =
            let r = link_among g ok k in_graph in
            record {
              some = omega (arith, r.0, r.1);
              node = r.2;
              port = slice_get_within (ports_of g.keys k.b) (port_number g.keys k.b k) (port_on g.keys k.b k) two.at_b;
            };
        key = ap (λ (x : Port). x.key) is;
        far = ap (λ (x : Port). x.far) is ∙ other;
        far_port = ap (λ (x : Port). x.far_port) is ∙ ap (λ (v : ℕ). port_number g.keys v k) other;
      }

  -- a port on the link is one of the two
  pub one_side : (v p : ℕ) → At net v p → (port_at net v p).key ≡ k → ((v ≡ k.a) × (p ≡ pa)) ⊎ ((v ≡ k.b) × (p ≡ pb))
  one_side v p at e = two.only v p (port_at net v p) (slice_get-get_or (ports_of g.keys v) p no_port at.port) e

  module _ (w : Net) where
    pub branch_from : (mark_at (w.node k.a) pa ≡ Branch) ⊎ (mark_at (w.node k.b) pb ≡ Branch) → IsBranchLink net w k
    branch_from (inl h) = (k.a, pa, side_a.at, side_a.key, h)
    branch_from (inr h) = (k.b, pb, side_b.at, side_b.key, h)

    pub branch_to : IsBranchLink net w k → (mark_at (w.node k.a) pa ≡ Branch) ⊎ (mark_at (w.node k.b) pb ≡ Branch)
    branch_to l = ⊎_elim
        (λ (e : (l.0 ≡ k.a) × (l.1 ≡ pa)). inl (sym (ap₂ (λ (v p : ℕ). mark_at (w.node v) p) e.0 e.1) ∙ l.4))
        (λ (e : (l.0 ≡ k.b) × (l.1 ≡ pb)). inr (sym (ap₂ (λ (v p : ℕ). mark_at (w.node v) p) e.0 e.1) ∙ l.4)) (one_side l.0 l.1 l.2 l.3)

    pub joined_from : mark_at (w.node k.a) pa ≡ Branch → mark_at (w.node k.b) pb ≡ Branch → IsJoinedLink net w k
    joined_from a b = (k.a, pa, side_a.at, side_a.key, (a, rw (side_a.far, side_a.far_port) b))

    pub joined_to : IsJoinedLink net w k → (mark_at (w.node k.a) pa ≡ Branch) × (mark_at (w.node k.b) pb ≡ Branch)
    joined_to l = ⊎_elim
        (λ (e : (l.0 ≡ k.a) × (l.1 ≡ pa)). let j : IsJoined net w k.a pa = rw (e.0, e.1) at l.4 in (j.0, rw (side_a.far, side_a.far_port) at j.1))
        (λ (e : (l.0 ≡ k.b) × (l.1 ≡ pb)). let j : IsJoined net w k.b pb = rw (e.0, e.1) at l.4 in (rw (side_b.far, side_b.far_port) at j.1, j.0))
        (one_side l.0 l.1 l.2 l.3)
