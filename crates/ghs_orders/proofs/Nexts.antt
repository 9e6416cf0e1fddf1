-- What is found from a node on, and behind an event, is the next in turn.
use Rattle.std.proofs.Common.{◌≡◌, ◌≢◌, ℕ, suc, ◌+◌, ◌-◌, ◌<◌, ◌≤◌, Bool, true, false, Option, Some, None, List, ◌++◌, length, sym, ◌∙◌, ap, subst, inl, inr, ⊎_elim, arith}
use Rattle.std.specs.List.{find, range_with_len}
use Rattle.std.specs.Prelude.{MatchOption}
use Rattle.std.proofs.lemmas.Bool.{both_ways, cases_Bool, cases_eq, cases_lt}
use Rattle.std.proofs.lemmas.Option.{same_Some}
use Rattle.ghs_node.specs.declared.message.Phase.TheVariants.{Sleeping}
use Rattle.peer_network.specs.declared.event.Event.{Event}
use Rattle.peer_network.specs.declared.event.Event.TheVariants.{Wake, Take}
use Rattle.peer_network.specs.Events.{event_node}
use Rattle.peer_network.specs.Network.{Network}
use Rattle.peer_index.specs.Places.{HasPlace, place, takes}
use Rattle.peer_index.proofs.lemmas.Lists.{first_found, none_found}
use Rattle.ghs_protocol.specs.Net.{Net, is_lawful_under}
use Rattle.ghs_orders.proofs.TurnFinding.{First, FirstOf, FirstOfNode, NoneOf, at_port, find_later, find_left, find_right, first_from, first_of_node, none_from, of_node, own, search_numbers, takes_first, takes_none}
use Rattle.ghs_orders.proofs.InOrder.{by_node, node_from, place_parts, start, starts_rise, within}
use Rattle.ghs_patient.proofs.lemmas.Places.{lawful_place}
use Rattle.ghs_orders.proofs.Staying.{sleeps}
use Rattle.ghs_orders.specs.Turns.{IsFirstFrom, IsNextInTurn, NoneFrom, ports_done}

-- the first number that passes from v on to n, or else of all from 1 to n
data FoundNode (q : ℕ → Bool) (v n : ℕ) : Option ℕ → Type 0 where
  From : (x : FirstOf q v (n + 1 - v)) → FoundNode q v n (Some x.number)
  Around : NoneOf q v (n + 1 - v) → (x : FirstOf q 1 n) → FoundNode q v n (Some x.number)
  Nowhere : NoneOf q 1 n → FoundNode q v n None

found_node : (q : ℕ → Bool) (v n : ℕ) → FoundNode q v n (find q (range_with_len v (n + 1 - v) ++ range_with_len 1 n))
found_node q v n = ⊎_elim
    (λ (none : NoneOf q v (n + 1 - v)).
    let here = find_right q (range_with_len v (n + 1 - v)) (range_with_len 1 n) (none_found q v (n + 1 - v) none) in
    ⊎_elim
    (λ (nothing : NoneOf q 1 n). subst (FoundNode q v n) (sym (here ∙ none_found q 1 n nothing)) (Nowhere nothing))
    (λ (x : FirstOf q 1 n). subst (FoundNode q v n) (sym (here ∙ first_found q 1 n x.number x.low x.high x.none x.passes)) (Around none x))
    (search_numbers q 1 n))
    (λ (x : FirstOf q v (n + 1 - v)).
    subst (FoundNode q v n)
    (sym (find_left q (range_with_len v (n + 1 - v)) (range_with_len 1 n) x.number
    (first_found q v (n + 1 - v) x.number x.low x.high x.none x.passes)))
    (From x))
    (search_numbers q v (n + 1 - v))

module _ (may : ℕ → Bool) (g : Network) (w : Net) where
  abbrev lawful : Event → Bool
  lawful e = is_lawful_under may g w e

  abbrev there : (f : Event) → lawful f ≡ true → HasPlace g f
  there f t = lawful_place may g w f t

  -- the events of a node in their order, and whether one of them may happen
  abbrev pub in_order : ℕ → ℕ → List Event
  in_order v low = own g lawful there v low

  abbrev pub has_one : ℕ → Bool
  has_one v = of_node g lawful there v

  -- nothing may happen, or what comes next from a place on
  abbrev pub NextFrom : ℕ → Option Event → Type 0
  NextFrom from o = MatchOption o (NoneFrom may g w 0) (IsNextInTurn may g w from)

  first_is : (from : ℕ) (e : Event) → First g lawful there from e → IsFirstFrom may g w from e
  first_is from e x = record { lawful = x.passes; here = x.here; first = x.first }

  -- The node that is found from a node on has the next event.
  pub record FromNode (v u : ℕ) : Type 0 where
    pub low : 1 ≤ u
    pub high : u ≤ g.count
    pub next : (o : Option Event) → o ≡ find lawful (in_order u 0) → NextFrom (start g v) o

  from_found : (v u : ℕ) → 1 ≤ v → has_one u ≡ true → 1 ≤ u → u ≤ g.count →
      ((x : FirstOfNode g lawful there u) → IsNextInTurn may g w (start g v) x.event) → FromNode v u
  from_found v u lo any low high next =
      let x = first_of_node g lawful there u any in
      record {
        low = low;
        high = high;
        next = λ o is. subst (NextFrom (start g v)) (sym (is ∙ x.found)) (next x);
      }

  nodes_none : (v : ℕ) → 1 ≤ v → NoneOf has_one v (g.count + 1 - v) → (n : ℕ) → v ≤ n → n ≤ g.count → has_one n ≡ false
  nodes_none v lo none n le hi = none n le (omega (arith, le, hi, lo))

  from_some : (v : ℕ) → 1 ≤ v → (o : Option ℕ) → FoundNode has_one v g.count o → (u : ℕ) → o ≡ Some u → FromNode v u
  from_some v lo _ (From x) u is =
      let low = x.low in
      let high = x.high in
      subst (FromNode v) (same_Some x.number u is)
      (from_found v x.number lo x.passes (omega (arith, low, lo)) (omega (arith, low, high))
      (λ y. inl (first_is (start g v) y.event (first_from g lawful there v x.number low y x.none))))
  from_some v lo _ (Around none x) u is =
      let low = x.low in
      let high = x.high in
      subst (FromNode v) (same_Some x.number u is)
      (from_found v x.number lo x.passes low (omega (arith, high))
      (λ y. inr (none_from g lawful there v (nodes_none v lo none), first_is 0 y.event (first_from g lawful there 1 x.number low y x.none))))
  from_some v lo _ (Nowhere none) u is = cc

  from_none : (v : ℕ) (o : Option ℕ) → FoundNode has_one v g.count o → o ≡ None → NoneFrom may g w 0
  from_none v _ (From x) is = cc
  from_none v _ (Around none x) is = cc
  from_none v _ (Nowhere none) is =
      none_from g lawful there 1 (λ n le hi. none n le (omega (arith, hi)))

  pub node_found : (v : ℕ) → 1 ≤ v → (o : Option ℕ) → o ≡ find has_one (range_with_len v (g.count + 1 - v) ++ range_with_len 1 g.count) →
      (u : ℕ) → o ≡ Some u → FromNode v u
  node_found v lo o is u some = from_some v lo _ (found_node has_one v g.count) u (sym is ∙ some)

  pub node_none : (v : ℕ) (o : Option ℕ) → o ≡ find has_one (range_with_len v (g.count + 1 - v) ++ range_with_len 1 g.count) → o ≡ None →
      NoneFrom may g w 0
  node_none v o is none = from_none v _ (found_node has_one v g.count) (sym is ∙ none)

  -- Behind an event of a node that is awake.
  module _ (last : Event) (has : HasPlace g last) (awake : (w.node (event_node last)).head.phase ≢ Sleeping) where
    abbrev v : ℕ
    v = event_node last

    abbrev low : ℕ
    low = ports_done last

    abbrev d : ℕ
    d = length (g.ports v)

    no_wake : lawful (Wake v) ≡ false
    no_wake = ⊎_elim (λ t. absurd (awake (sleeps may g w v t))) (λ f. f) (cases_Bool (lawful (Wake v)))

    low_within : (e : Event) → HasPlace g e → ports_done e ≤ length (g.ports (event_node e))
    low_within (Wake u) h = omega arith
    low_within (Take u q) h = let lt = h.port in omega (arith, lt)

    -- the first Take of the node behind it
    behind_first : (x : FirstOf (at_port lawful v) low (d - low)) → find lawful (in_order v low) ≡ Some (Take v x.number)
    behind_first x =
        find_later lawful (Wake v) (takes v low (d - low) ++ takes v 0 d) no_wake
        ∙ find_left lawful (takes v low (d - low)) (takes v 0 d) (Take v x.number) (takes_first lawful v low (d - low) x)

    -- an event of the node behind it is a Take at a later port
    later_take : (f : Event) → lawful f ≡ true → suc (place g last) ≤ place g f → event_node f ≡ v →
        (q : ℕ) × (f ≡ Take v q) × (low ≤ q) × (q < d)
    later_take (Wake u) t le same =
        let a = place_parts g last in let z = ap (start g) same in absurd (omega (arith, a, le, z))
    later_take (Take u q) t le same =
        let a = place_parts g last in
        let z = ap (start g) same in
        let lt = (there (Take u q) t).port in
        let many = ap (λ y. length (g.ports y)) same in
        (q, ap (λ y. Take y q) same, omega (arith, a, le, z), omega (arith, lt, many))

    behind_is : (x : FirstOf (at_port lawful v) low (d - low)) → IsFirstFrom may g w (suc (place g last)) (Take v x.number)
    behind_is x =
        let lo = x.low in
        let a = place_parts g last in
        record {
          lawful = x.passes;
          here = omega (arith, lo, a);
          first = λ f t le.
              let from = node_from g v f (there f t) (let s = a in omega (arith, s, le)) in
              ⊎_elim
              (λ (same : event_node f ≡ v).
              let z = later_take f t le same in
              let q = z.2 in
              let parts = place_parts g f in
              ⊎_elim
              (λ (lt : z.0 < x.number).
              absurd (both_ways (lawful (Take v z.0)) (x.none z.0 q lt) (subst (λ e. lawful e ≡ true) z.1 t)))
              (λ (ge : x.number ≤ z.0). subst (λ e. place g (Take v x.number) ≤ place g e) (sym z.1) (omega (arith, ge)))
              (cases_lt z.0 x.number))
              (λ ne.
              let lt = by_node g (Take v x.number) f (there (Take v x.number) x.passes) (omega (arith, from, ne)) in
              omega (arith, lt))
              (cases_eq (event_node f) v);
        }

    port_is : (a b i j : ℕ) → Take a i ≡ Take b j → i ≡ j
    port_is a b i j e = cc

    -- the event that is found is behind it, or all that may happen at the node stands before
    pub event_found : (o : Option Event) → o ≡ find lawful (in_order v low) → (e : Event) → o ≡ Some e →
        HasPlace g e × (place g last < place g e → IsFirstFrom may g w (suc (place g last)) e) ×
        (place g e ≤ place g last → NoneOf (at_port lawful v) low (d - low))
    event_found o is e some = ⊎_elim
        (λ (none : NoneOf (at_port lawful v) low (d - low)).
        let here =
        find_later lawful (Wake v) (takes v low (d - low) ++ takes v 0 d) no_wake
        ∙ find_right lawful (takes v low (d - low)) (takes v 0 d) (takes_none lawful v low (d - low) none) in
        ⊎_elim
        (λ (nothing : NoneOf (at_port lawful v) 0 d). absurd (let z : None ≡ Some e = sym (is ∙ here ∙ takes_none lawful v 0 d nothing) ∙ some in cc))
        (λ (x : FirstOf (at_port lawful v) 0 d).
        let same : Take v x.number ≡ e = same_Some _ _ (sym (is ∙ here ∙ takes_first lawful v 0 d x) ∙ some) in
        let hi = x.high in
        let before : x.number < low = ⊎_elim
        (λ lt. lt)
        (λ (le : low ≤ x.number). absurd (both_ways (lawful (Take v x.number)) (none x.number le (omega (arith, le, hi))) x.passes))
        (cases_lt x.number low) in
        let a = place_parts g last in
        let at : place g e ≤ place g last = subst (λ f. place g f ≤ place g last) same (omega (arith, a, before)) in
        (subst (HasPlace g) same (there (Take v x.number) x.passes), λ lt. absurd (omega (arith, lt, at)), λ le. none))
        (search_numbers (at_port lawful v) 0 d))
        (λ (x : FirstOf (at_port lawful v) low (d - low)).
        let same : Take v x.number ≡ e = same_Some _ _ (sym (is ∙ behind_first x) ∙ some) in
        let lo = x.low in
        let a = place_parts g last in
        let behind : place g last < place g e = subst (λ f. place g last < place g f) same (omega (arith, a, lo)) in (
          subst (HasPlace g) same (there (Take v x.number) x.passes),
          λ lt. subst (IsFirstFrom may g w (suc (place g last))) same (behind_is x),
          λ le. absurd (omega (arith, le, behind)),
        ))
        (search_numbers (at_port lawful v) low (d - low))

    pub nothing_found : (o : Option Event) → o ≡ find lawful (in_order v low) → o ≡ None → NoneOf (at_port lawful v) low (d - low)
    nothing_found o is none = ⊎_elim
        (λ (no : NoneOf (at_port lawful v) low (d - low)). no)
        (λ (x : FirstOf (at_port lawful v) low (d - low)).
        absurd (let z : None ≡ Some (Take v x.number) = sym none ∙ (is ∙ behind_first x) in cc))
        (search_numbers (at_port lawful v) low (d - low))

    -- where the node has none, what comes next from the next node on
    gap : NoneOf (at_port lawful v) low (d - low) → (f : Event) → lawful f ≡ true → suc (place g last) ≤ place g f → start g (v + 1) ≤ place g f
    gap none f t le = ⊎_elim
        (λ (lt : place g f < start g (v + 1)).
        let a = place_parts g last in
        let from = node_from g v f (there f t) (omega (arith, a, le)) in
        let to : event_node f < v + 1 = below f (there f t) lt in
        let z = later_take f t le (omega (arith, from, to)) in
        let q = z.2 in
        let r = z.3 in
        absurd (both_ways (lawful (Take v z.0)) (none z.0 q (omega (arith, q, r))) (subst (λ e. lawful e ≡ true) z.1 t)))
        (λ ge. ge)
        (cases_lt (place g f) (start g (v + 1)))
      where
        below : (f : Event) → HasPlace g f → place g f < start g (v + 1) → event_node f < v + 1
        below f h lt = ⊎_elim
            (λ less. less)
            (λ (ge : v + 1 ≤ event_node f).
            let a = starts_rise g (v + 1) (event_node f) ge in let b = place_parts g f in absurd (omega (arith, a, b, lt)))
            (cases_lt (event_node f) (v + 1))

    pub none_then : NoneOf (at_port lawful v) low (d - low) → (o : Option Event) → NextFrom (start g (v + 1)) o → NextFrom (suc (place g last)) o
    none_then none None next = next
    none_then none (Some e) next =
        let ends = within g last has in
        ⊎_elim
        (λ (a : IsFirstFrom may g w (start g (v + 1)) e). let here = a.here in inl (record {
          lawful = a.lawful;
          here = omega (arith, here, ends);
          first = λ f t le. a.first f t (gap none f t le);
        }))
        (λ a. inr (
          λ f t. ⊎_elim
              (λ lt. lt)
              (λ (le : suc (place g last) ≤ place g f).
              let ge = gap none f t le in let lt = a.0 f t in absurd (omega (arith, ge, lt)))
              (cases_lt (place g f) (suc (place g last))),
          a.1,
        ))
        next
