-- The network of a graph: it is wired, a node's ports rise and are few, and all ports together are twice the links.
use Rattle.std.proofs.Common.{◌≡◌, ℕ, zero, suc, ◌+◌, ◌*◌, ◌<◌, ◌⊎◌, inl, inr, ⊎_elim, true, length, map, sum, refl, sym, ◌∙◌, ap, arith, subst, add-one, false, ◌≤◌}
use Rattle.std.specs.List.{Contains, range_with_len}
use Rattle.std.proofs.lemmas.List.FromFn.{sum_by-map-range_with_len_more}
use Rattle.std.proofs.lemmas.List.Sums.{sum-map}
use Rattle.std.proofs.lemmas.List.{get_or_default}
use Rattle.std.proofs.lemmas.Option.{slice_get_within, slice_get-get_or, get_or_from_slice_get}
use Rattle.ghs_graph.specs.declared.key.Key.{Key}
use Rattle.ghs_graph.specs.declared.port.Port.{Port}
use Rattle.ghs_graph.specs.Key.{key_lt, ends_at, no_key}
use Rattle.ghs_graph.specs.Graph.{Shape, IsGraph, nodes_of}
use Rattle.ghs_graph.specs.Ports.{port_number, far_end, port_on, ports_of, HasPort, no_port}
use Rattle.ghs_graph.specs.Laws.{HasTwoPorts}
use Rattle.ghs_graph.proofs.lemmas.Ports.{length-ports_of, degree-le-length, ports_end_elsewhere, ports_lead_back, ports_rise, OnLink, on_link, far_end_a, far_end_b, end_cases, among_at, links_have_two_ports}
use Rattle.ghs_graph.proofs.lemmas.Degrees.{degrees_are_twice}
use Rattle.peer_network.specs.Network.{network_of, port_at, far, far_port, At}
use Rattle.peer_network.proofs.lemmas.Wired.{IsWired, HasFewPorts}
use Rattle.peer_network.specs.Sums.{sum_below}
use Rattle.std.proofs.lemmas.Bool.Decides.{nat_tests}
use Rattle.std.proofs.lemmas.List.Elements.{All-contains}

-- a sum over the nodes, in ghs_graph's way to say it
sum_nodes : (n : ℕ) (f : ℕ → ℕ) → sum_below n (λ i. f (suc i)) ≡ sum (map f (range_with_len 1 n))
sum_nodes zero f = refl
sum_nodes (suc n) f =
    let one_more : sum (map f (range_with_len 1 (n + 1))) ≡ sum (map f (range_with_len 1 n)) + f (suc n) =
    sum_by-map-range_with_len_more (λ x. x) f 1 n (suc n) (omega arith) in
    let same : sum (map f (range_with_len 1 (suc n))) ≡ sum (map f (range_with_len 1 (n + 1))) =
    ap (λ m. sum (map f (range_with_len 1 m))) (sym (add-one n)) in
    omega (arith, sum_nodes n f, one_more, same)

-- keys of which neither is below the other are one
same_parts : (j k : Key) → key_lt j k ≡ false → key_lt k j ≡ false → (j.weight ≡ k.weight) × (j.a ≡ k.a) × (j.b ≡ k.b)
same_parts j k h l = (grind (arith, nat_tests), grind (arith, nat_tests), grind (arith, nat_tests))

pub same_key : (j k : Key) → key_lt j k ≡ false → key_lt k j ≡ false → j ≡ k
same_key j k h l = let s = same_parts j k h l in λ i. record { weight = s.0 i; a = s.1 i; b = s.2 i }

module _ (g : Shape) (ok : IsGraph g) where
  pub has_port : (v p : ℕ) → At (network_of g) v p → HasPort g.keys v p (port_at (network_of g) v p)
  has_port v p at = slice_get-get_or (ports_of g.keys v) p no_port at.port

  -- the port across
  has_back : (v p : ℕ) → At (network_of g) v p →
      HasPort g.keys (far (network_of g) v p) (far_port (network_of g) v p) (record { key = (port_at (network_of g) v p).key; far = v; far_port = p })
  has_back v p at = ports_lead_back g ok v p (port_at (network_of g) v p) (has_port v p at)

  across : (v p : ℕ) → At (network_of g) v p →
      port_at (network_of g) (far (network_of g) v p) (far_port (network_of g) v p) ≡
      record { key = (port_at (network_of g) v p).key; far = v; far_port = p }
  across v p at = get_or_from_slice_get (ports_of g.keys (far (network_of g) v p)) (far_port (network_of g) v p) _ no_port (has_back v p at)

  pub graph_wired : IsWired (network_of g)
  graph_wired = record {
    there = λ v p at.
        let f = ports_end_elsewhere g ok v p (port_at (network_of g) v p) (has_port v p at) in
        record {
          some = f.0;
          node = f.1;
          port = slice_get_within (ports_of g.keys (far (network_of g) v p)) (far_port (network_of g) v p) _ (has_back v p at);
        };
    apart = λ v p at. (ports_end_elsewhere g ok v p (port_at (network_of g) v p) (has_port v p at)).2;
    back = λ v p at. ap (λ (x : Port). x.far) (across v p at);
    back_port = λ v p at. ap (λ (x : Port). x.far_port) (across v p at);
    same_key = λ v p at. ap (λ (x : Port). x.key) (across v p at);
  }

  pub graph_few : HasFewPorts (network_of g)
  graph_few v = omega (arith, length-ports_of g.keys v, degree-le-length g.keys v, ok.links)

  pub twice_links : sum_below g.nodes (λ i. length (ports_of g.keys (suc i))) ≡ 2 * length g.keys
  twice_links = sum_nodes g.nodes (λ v. length (ports_of g.keys v)) ∙ sum-map (λ v. length (ports_of g.keys v)) (nodes_of g) ∙ degrees_are_twice g ok

  -- the keys of a node's ports rise
  pub graph_rising : (v p q : ℕ) → p < q → At (network_of g) v q → key_lt (port_at (network_of g) v p).key (port_at (network_of g) v q).key ≡ true
  graph_rising v p q lt at = ports_rise g ok v p q no_port lt at.port

  -- where a port's key stands, and what the port is by it
  on_key : (v p : ℕ) → At (network_of g) v p → OnLink g.keys v p (port_at (network_of g) v p)
  on_key v p at = on_link g.keys v p (port_at (network_of g) v p) (has_port v p at)

  port_is : (v p : ℕ) → At (network_of g) v p → port_at (network_of g) v p ≡ port_on g.keys v (port_at (network_of g) v p).key
  port_is v p at = let o = on_key v p at in o.port ∙ ap (port_on g.keys v) (sym (ap (λ (x : Port). x.key) o.port))

  -- the ends of a link are nodes, the lesser one first
  pub link_among : (k : Key) → Contains g.keys k → (1 ≤ k.a) × (k.a < k.b) × (k.b ≤ g.nodes)
  link_among k has = All-contains (λ (x : Key). (1 ≤ x.a) × (x.a < x.b) × (x.b ≤ g.nodes)) g.keys k ok.among has

  pub is_key : (v p : ℕ) → At (network_of g) v p → Contains g.keys (port_at (network_of g) v p).key
  is_key v p at = let o = on_key v p at in (o.at, o.within, get_or_default g.keys o.at _ no_key o.within ∙ sym (ap (λ (x : Port). x.key) o.port))

  ordered : (v p : ℕ) → At (network_of g) v p → (port_at (network_of g) v p).key.a < (port_at (network_of g) v p).key.b
  ordered v p at =
      let o = on_key v p at in
      subst (λ (x : Key). x.a < x.b) (sym (ap (λ (x : Port). x.key) o.port)) ((among_at g.nodes g.keys o.at no_key ok.among o.within).1)

  -- a port leads from one end of its link to the other
  pub port_ends : (v p : ℕ) → At (network_of g) v p →
      ((v ≡ (port_at (network_of g) v p).key.a) × (far (network_of g) v p ≡ (port_at (network_of g) v p).key.b)) ⊎
      ((v ≡ (port_at (network_of g) v p).key.b) × (far (network_of g) v p ≡ (port_at (network_of g) v p).key.a))
  port_ends v p at =
      ⊎_elim (λ x. inl (x, to ∙ ap (λ z. far_end z k) x ∙ far_end_a k))
      (λ x. inr (x, to ∙ ap (λ z. far_end z k) x ∙ far_end_b k (ordered v p at))) (end_cases v k ends)
    where
      k : Key
      k = (port_at (network_of g) v p).key

      to : far (network_of g) v p ≡ far_end v k
      to = ap (λ (z : Port). z.far) (port_is v p at)

      ends : ends_at v k ≡ true
      ends = let o = on_key v p at in subst (λ (x : Key). ends_at v x ≡ true) (sym (ap (λ (x : Port). x.key) o.port)) o.ends

  -- two ports with one key are the same, or each other's far end
  pub graph_keyed : (v p u q : ℕ) → At (network_of g) v p → At (network_of g) u q →
      (port_at (network_of g) v p).key ≡ (port_at (network_of g) u q).key →
      ((v ≡ u) × (p ≡ q)) ⊎ ((far (network_of g) v p ≡ u) × (far_port (network_of g) v p ≡ q))
  graph_keyed v p u q at at' e = ⊎_elim
      (λ x. ⊎_elim (λ y. inl (x.0 ∙ sym y.0, x.1 ∙ sym y.1)) (λ y. inr (across_to (x.0) y (far_end_a k))) there)
      (λ x. ⊎_elim (λ y. inr (across_to (x.0) y (far_end_b k (ordered v p at)))) (λ y. inl (x.0 ∙ sym y.0, x.1 ∙ sym y.1)) there) here
    where
      k : Key
      k = (port_at (network_of g) v p).key

      two : HasTwoPorts g.keys k
      two = links_have_two_ports g ok k (is_key v p at)

      here : ((v ≡ k.a) × (p ≡ port_number g.keys k.a k)) ⊎ ((v ≡ k.b) × (p ≡ port_number g.keys k.b k))
      here = two.only v p (port_at (network_of g) v p) (has_port v p at) refl

      there : ((u ≡ k.a) × (q ≡ port_number g.keys k.a k)) ⊎ ((u ≡ k.b) × (q ≡ port_number g.keys k.b k))
      there = two.only u q (port_at (network_of g) u q) (has_port u q at') (sym e)

      across_to : {a b : ℕ} →
          v ≡ a →
          (u ≡ b) × (q ≡ port_number g.keys b k) →
          far_end a k ≡ b →
          (far (network_of g) v p ≡ u) × (far_port (network_of g) v p ≡ q)
      across_to {a} {b} x y f =
          let end : far_end v k ≡ b = ap (λ z. far_end z k) x ∙ f in (
            ap (λ (z : Port). z.far) (port_is v p at) ∙ end ∙ sym y.0,
            ap (λ (z : Port). z.far_port) (port_is v p at) ∙ ap (λ z. port_number g.keys z k) end ∙ sym y.1,
          )
