-- At level 0 each node is a class by itself, and goes out over its first port.
use Rattle.std.proofs.Common.{◌≡◌, ◌≢◌, ℕ, zero, ◌<◌, inl, inr, ⊎_elim, true, false, List, length, get_or, sym, ◌∙◌, ap, subst, arith}
use Rattle.std.specs.List.{Contains}
use Rattle.std.proofs.lemmas.Bool.{cases_eq}
use Rattle.std.proofs.lemmas.List.{get_or_default}
use Rattle.std.proofs.lemmas.List.Elements.{Contains-get_or}
use Rattle.std.proofs.lemmas.Option.{slice_get_within, get_or_from_slice_get}
use Rattle.ghs_graph.specs.declared.key.Key.{Key}
use Rattle.ghs_graph.specs.declared.port.Port.{Port}
use Rattle.ghs_graph.specs.Key.{key_lt, ends_at, no_key}
use Rattle.ghs_graph.specs.Links.{Joined, Same}
use Rattle.ghs_graph.specs.Ports.{HasPort, ports_of, port_on}
use Rattle.ghs_graph.specs.Graph.{Shape, IsGraph}
use Rattle.ghs_graph.proofs.lemmas.Joining.{joined_by_none}
use Rattle.ghs_graph.proofs.lemmas.Keys.{lt_irreflexive, lt_asymmetric}
use Rattle.ghs_graph.proofs.lemmas.Ports.{OnLink, on_link, port_at, ports_rise, among_at, end_cases, ends_a, ends_b}
use Rattle.boruvka_protocol.specs.Levels.{Leaves, IsLeastOut, Taken, HasWayOut}
use Rattle.boruvka_protocol.specs.LevelLaws.{FirstPortIsLeast, NoPortNoWayOut}
use Rattle.boruvka_protocol.proofs.lemmas.WaysOut.{way_out_down}

-- a link that leaves at level 0 ends at the node
leaves_ends : (ks : List Key) (v : ℕ) (k : Key) → Leaves (Taken ks zero) v k → ends_at v k ≡ true
leaves_ends ks v k (inl p) = subst (λ x. ends_at x k ≡ true) (sym (joined_by_none (λ j h. h) p.0)) (ends_a k)
leaves_ends ks v k (inr p) = subst (λ x. ends_at x k ≡ true) (sym (joined_by_none (λ j h. h) p.0)) (ends_b k)

ends_leave : (ks : List Key) (v : ℕ) (k : Key) → k.a < k.b → ends_at v k ≡ true → Leaves (Taken ks zero) v k
ends_leave ks v k lt e = ⊎_elim
    (λ q.
    inl (subst (λ x. Joined (Taken ks zero) v x) q Same, λ way. let o : v ≡ k.b = joined_by_none (λ j h. h) way in absurd (omega (arith, lt, q, o))))
    (λ q.
    inr (subst (λ x. Joined (Taken ks zero) v x) q Same, λ way. let o : v ≡ k.a = joined_by_none (λ j h. h) way in absurd (omega (arith, lt, q, o))))
    (end_cases v k e)

-- a link of the list that ends at the node has a port there
record PortOf (ks : List Key) (v : ℕ) (k : Key) : Type 0 where
  number : ℕ
  port : Port
  has : HasPort ks v number port
  key : port.key ≡ k

port_of : (ks : List Key) (v : ℕ) (k : Key) → Contains ks k → ends_at v k ≡ true → PortOf ks v k
port_of ks v k h e = record {
  number = _;
  port = port_on ks v (get_or ks h.0 no_key);
  has = port_at ks v h.0 no_key h.1 (subst (λ (x : Key). ends_at v x ≡ true) (sym here) e);
  key = here;
}
  where
    here : get_or ks h.0 no_key ≡ k
    here = get_or_default ks h.0 no_key k h.1 ∙ h.2

-- no port has a smaller key than the first
first_is_least : (g : Shape) → IsGraph g → (v : ℕ) (p : Port) → HasPort g.keys v 0 p → (i : ℕ) (q : Port) → HasPort g.keys v i q
    → key_lt q.key p.key ≡ false
first_is_least g ok v p first i q h = ⊎_elim same later (cases_eq i 0)
  where
    at_0 : get_or (ports_of g.keys v) 0 q ≡ p
    at_0 = get_or_from_slice_get (ports_of g.keys v) 0 p q first

    at_i : get_or (ports_of g.keys v) i q ≡ q
    at_i = get_or_from_slice_get (ports_of g.keys v) i q q h

    same : i ≡ 0 → key_lt q.key p.key ≡ false
    same e =
        subst (λ (x : Port). key_lt q.key x.key ≡ false) (sym at_i ∙ ap (λ n. get_or (ports_of g.keys v) n q) e ∙ at_0) (lt_irreflexive q.key)

    later : i ≢ 0 → key_lt q.key p.key ≡ false
    later ne =
        lt_asymmetric p.key q.key
        (subst (λ (x : Port). key_lt x.key q.key ≡ true) at_0
        (subst (λ (x : Port). key_lt (get_or (ports_of g.keys v) 0 q).key x.key ≡ true) at_i
        (ports_rise g ok v 0 i q (omega (arith, ne)) (slice_get_within (ports_of g.keys v) i q h))))

pub first_port_is_least : FirstPortIsLeast
first_port_is_least g ok v p h = subst (λ (x : Key). IsLeastOut g.keys (Taken g.keys zero) v x) (sym key) (record {
  link = Contains-get_or g.keys o.at no_key o.within;
  leaves = ends_leave g.keys v (get_or g.keys o.at no_key) ends o.ends;
  least = λ j is out.
      let q : PortOf g.keys v j = port_of g.keys v j is (leaves_ends g.keys v j out) in
      subst (λ (x : Key). key_lt x (get_or g.keys o.at no_key) ≡ false) q.key
      (subst (λ (x : Key). key_lt q.port.key x ≡ false) key (first_is_least g ok v p h q.number q.port q.has));
})
  where
    o : OnLink g.keys v 0 p
    o = on_link g.keys v 0 p h

    key : p.key ≡ get_or g.keys o.at no_key
    key = ap (λ (q : Port). q.key) o.port

    ends : (get_or g.keys o.at no_key).a < (get_or g.keys o.at no_key).b
    ends = (among_at g.nodes g.keys o.at no_key ok.among o.within).1

pub no_port_no_way_out : NoPortNoWayOut
no_port_no_way_out g ok v l none h =
    let first : HasWayOut g.keys zero v = way_out_down g.keys zero l v (omega arith) h in
    let q : PortOf g.keys v first.0 = port_of g.keys v first.0 first.1 (leaves_ends g.keys v first.0 first.2) in
    let within : q.number < length (ports_of g.keys v) = slice_get_within (ports_of g.keys v) q.number q.port q.has in
    let few : length (ports_of g.keys v) ≡ 0 = ap (λ (ps : List Port). length ps) none in
    absurd (omega (arith, within, few))
