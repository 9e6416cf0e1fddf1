-- Facts of graphs and of their levels alone: ports by their links, ways up, classes.
use Rattle.std.proofs.Common.{◌≡◌, ℕ, zero, suc, ◌<◌, ◌≤◌, ◌⊎◌, inl, inr, ⊎_elim, true, List, sym, ◌∙◌, ap, subst, arith}
use Rattle.std.specs.List.{Contains}
use Rattle.std.proofs.lemmas.Bool.{cases_lt}
use Rattle.std.proofs.lemmas.Option.{slice_get_within, get_or_from_slice_get}
use Rattle.ghs_graph.specs.declared.key.Key.{Key}
use Rattle.ghs_graph.specs.declared.port.Port.{Port}
use Rattle.ghs_graph.specs.Key.{ends_at}
use Rattle.ghs_graph.specs.Links.{Joined, Same, Over, Back, links}
use Rattle.ghs_graph.specs.Ports.{far_end, ports_of, HasPort, no_port}
use Rattle.ghs_graph.specs.Graph.{Shape, IsGraph}
use Rattle.ghs_graph.specs.Laws.{HasTwoPorts}
use Rattle.ghs_graph.proofs.lemmas.Ports.{end_cases, far_end_a, far_end_b, links_have_two_ports}
use Rattle.peer_network.specs.Network.{Network, network_of, port_at, far, At}
use Rattle.peer_network.proofs.lemmas.Graphs.{link_among, port_ends, is_key}
use Rattle.boruvka_protocol.specs.Levels.{Taken, InClass, HasWayOut, IsOfLevel}
use Rattle.boruvka_protocol.specs.WaysUp.{IsTop}
use Rattle.boruvka_protocol.proofs.lemmas.Cuts.{taken_in_tree}
use Rattle.boruvka_protocol.proofs.lemmas.Computing.{in_class_decided}
use Rattle.boruvka_protocol.proofs.lemmas.WaysOut.{whole_class}
use Rattle.boruvka_protocol.proofs.lemmas.WaysUp.{top_at, classes_have_one_top, links_are_ways_up}
use Rattle.boruvka_protocol.proofs.invariant.Words.{IsWayUp}

-- the port of u on the link k
pub record PortOn (g : Network) (u : ℕ) (k : Key) : Type 0 where
  pub port : ℕ
  pub at : At g u port
  pub key : (port_at g u port).key ≡ k

-- over a link from one end to the other
pub over : {P : Key → Type 0} (k : Key) {u v : ℕ} → P k → ((u ≡ k.a) × (v ≡ k.b)) ⊎ ((u ≡ k.b) × (v ≡ k.a)) → Joined P u v
over {P} k {u} {v} p (inl e) = subst (λ x. Joined P x v) (sym e.0) (subst (λ x. Joined P k.a x) (sym e.1) (Over k p Same))
over {P} k {u} {v} p (inr e) = subst (λ x. Joined P x v) (sym e.0) (subst (λ x. Joined P k.b x) (sym e.1) (Back k p Same))

-- the ends of a link, from one of them
pub ends_from : (k : Key) (v : ℕ) → k.a < k.b → ends_at v k ≡ true → ((v ≡ k.a) × (far_end v k ≡ k.b)) ⊎ ((v ≡ k.b) × (far_end v k ≡ k.a))
ends_from k v lt e = ⊎_elim
    (λ q. inl (q, ap (λ x. far_end x k) q ∙ far_end_a k))
    (λ q. inr (q, ap (λ x. far_end x k) q ∙ far_end_b k lt))
    (end_cases v k e)

module _ (g : Shape) (ok : IsGraph g) where
  listed : (u i : ℕ) (x : Port) → 1 ≤ u → u ≤ g.nodes → HasPort g.keys u i x → PortOn (network_of g) u x.key
  listed u i x low high h = record {
    port = i;
    at = record { some = low; node = high; port = slice_get_within (ports_of g.keys u) i x h };
    key = ap (λ (z : Port). z.key) (get_or_from_slice_get (ports_of g.keys u) i x no_port h);
  }

  -- each end of a link has a port on it
  pub port_on_link : (u : ℕ) (k : Key) → Contains g.keys k → ends_at u k ≡ true → PortOn (network_of g) u k
  port_on_link u k is e = ⊎_elim
      (λ q. subst (λ x. PortOn (network_of g) x k) (sym q) (listed k.a _ _ r.0 (omega (arith, r.1, r.2)) two.at_a))
      (λ q. subst (λ x. PortOn (network_of g) x k) (sym q) (listed k.b _ _ (omega (arith, r.0, r.1)) r.2 two.at_b))
      (end_cases u k e)
    where
      two : HasTwoPorts g.keys k
      two = links_have_two_ports g ok k is

      r : (1 ≤ k.a) × (k.a < k.b) × (k.b ≤ g.nodes)
      r = link_among g ok k is

  -- the far end of a port, by its link
  pub far_by_link : (v p : ℕ) → At (network_of g) v p → far (network_of g) v p ≡ far_end v (port_at (network_of g) v p).key
  far_by_link v p at = ⊎_elim
      (λ e. e.1 ∙ sym (ap (λ x. far_end x k) e.0 ∙ far_end_a k))
      (λ e. e.1 ∙ sym (ap (λ x. far_end x k) e.0 ∙ far_end_b k (link_among g ok k (is_key g ok v p at)).1))
      (port_ends g ok v p at)
    where
      k : Key
      k = (port_at (network_of g) v p).key

  -- what is taken: its lesser end is the first
  pub taken_ordered : (l : ℕ) (k : Key) → Taken g.keys l k → k.a < k.b
  taken_ordered l k t = (link_among g ok k (taken_in_tree g.keys l k t).0).1

-- a class of a level had a way out at each level before
pub had_way_out : (ks : List Key) (l m v : ℕ) → IsOfLevel ks l v → m < l → HasWayOut ks m v
had_way_out ks zero m v h lt = absurd (omega (arith, lt))
had_way_out ks (suc l) m v h lt = ⊎_elim
    (λ less. had_way_out ks l m v (h v Same).0 less)
    (λ le. let e : l ≡ m = omega (arith, le, lt) in subst (λ x. HasWayOut ks x v) e (h v Same).1)
    (cases_lt m l)

-- what is taken stays so
pub taken_still : (ks : List Key) (l m : ℕ) (k : Key) → l ≤ m → Taken ks l k → Taken ks m k
taken_still ks l zero k le t = let e : l ≡ 0 = omega (arith, le) in subst (λ x. Taken ks x k) e t
taken_still ks l (suc m) k le t = ⊎_elim
    (λ lt. inl (taken_still ks l m k (omega (arith, lt)) t))
    (λ ge. let e : l ≡ suc m = omega (arith, le, ge) in subst (λ x. Taken ks x k) e t)
    (cases_lt l (suc m))

-- a class without a way out has all that the links join
pub in_whole : (ks : List Key) (l : ℕ) {u x : ℕ} → (HasWayOut ks l u → ⊥) → Joined (links ks) u x → InClass ks l u x
in_whole ks l {u} {x} none way = ⊎_elim (λ in_class. in_class) (λ out. absurd (whole_class ks l none way out)) (in_class_decided ks l u x)

module _ (g : Shape) (ok : IsGraph g) where
  -- each taken link of a class of the level is the way up of one of its ends
  pub up_either : (l : ℕ) (k : Key) → Taken g.keys l k → IsOfLevel g.keys l k.a → IsWayUp g.keys l k.a k ⊎ IsWayUp g.keys l k.b k
  up_either l k t h = ⊎_elim
      (λ up. inl (record { root = top.0; top = top.1; up = up.0 }))
      (λ up. inr (record { root = top.0; top = top_at g.keys l k.a k.b top.0 (Over k t Same) top.1; up = up.0 }))
      (links_are_ways_up g ok l k.a top.0 top.1 k t Same)
    where
      top : (r : ℕ) × IsTop g.keys l k.a r × InClass g.keys l k.a r × ((s : ℕ) → IsTop g.keys l k.a s → s ≡ r)
      top = classes_have_one_top g ok l k.a h
