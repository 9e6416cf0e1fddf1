-- How many events a run by round robin has at most, and that its wakes come in the first lap.
use Rattle.std.proofs.Common.{◌≡◌, ◌≢◌, ℕ, zero, suc, ◌+◌, ◌*◌, ◌≤◌, Bool, true, List, [], ◌∷◌, ◌++◌, length, take, refl, sym, ◌∙◌, ap, subst, ⊎_elim, arith, get_or}
use Rattle.std.proofs.lemmas.Bool.{and_from, and_parts, cases_eq}
use Rattle.std.proofs.lemmas.List.{length_push}
use Rattle.std.proofs.lemmas.Option.{get_or_from_slice_get}
use Rattle.std.proofs.Math.Nat.{mul-le-mul_right}
use Rattle.std.proofs.Common.{suc-mul}
use Rattle.std.proofs.Math.Seq.{take-suc}
use Rattle.ghs_graph.specs.Bound.{IsBound}
use Rattle.ghs_graph.specs.Graph.{Shape, IsGraph}
use Rattle.ghs_node.specs.declared.message.Phase.TheVariants.{Sleeping}
use Rattle.ghs_node.specs.Words.{is_sleeping}
use Rattle.peer_network.specs.declared.event.Event.{Event}
use Rattle.peer_network.specs.declared.event.Event.TheVariants.{Wake, Take}
use Rattle.peer_network.specs.Events.{event_node, takes_in}
use Rattle.peer_network.specs.Network.{Network, is_node, network_of}
use Rattle.peer_network.specs.Sums.{sum_below}
use Rattle.peer_network.proofs.lemmas.Graphs.{graph_few, graph_wired, twice_links}
use Rattle.peer_index.specs.Places.{HasPlace, all_events, events_at, events_to, node_events, place}
use Rattle.peer_index.proofs.lemmas.Places.{length_to, place_apart, place_within, placed}
use Rattle.ghs_protocol.specs.Net.{Net, is_lawful, is_lawful_under}
use Rattle.ghs_protocol.specs.Run.{net_after}
use Rattle.ghs_protocol.proofs.lemmas.WellFormed.{after_formed}
use Rattle.ghs_orders.proofs.Cutting.{laps_few}
use Rattle.ghs_orders.proofs.Picked.{behind_more, laps_next, laps_same, next_lawful, picked_after, picked_more}
use Rattle.ghs_patient.proofs.lemmas.Places.{lawful_place}
use Rattle.ghs_orders.proofs.Staying.{asleep_before, node_awake, sleeps}
use Rattle.ghs_orders.specs.Laps.{laps_from, laps_in}
use Rattle.ghs_orders.specs.RoundRobinLaws.{WakesComeFirst}
use Rattle.ghs_orders.specs.Picks.{Begun, IsPickedInTurn, Picked, most_events}
use Rattle.ghs_orders.specs.Turns.{IsFirstFrom, NoneFrom, place_behind}

-- The last event of a list.

abbrev last_or : Event → List Event → Event
last_or d [] = d
last_or d (e ∷ es) = last_or e es

last_more : (d : Event) (es : List Event) (e : Event) → last_or d (es ++ e ∷ []) ≡ e
last_more d [] e = refl
last_more d (f ∷ es) e = last_more f es e

last_is : (es fs : List Event) (e f : Event) → es ++ e ∷ [] ≡ fs ++ f ∷ [] → e ≡ f
last_is es fs e f is = sym (last_more e es e) ∙ ap (last_or e) is ∙ last_more e fs f

none_less : (es : List Event) (e : Event) → [] ≡ es ++ e ∷ [] → ⊥
none_less [] e is = cc
none_less (f ∷ es) e is = cc

-- Takes counted.

takes_both : (es fs : List Event) → takes_in (es ++ fs) ≡ takes_in es + takes_in fs
takes_both [] fs = omega arith
takes_both (Wake v ∷ es) fs = takes_both es fs
takes_both (Take v p ∷ es) fs = let r = takes_both es fs in omega (arith, r)

takes_front : (es : List Event) (i j : ℕ) → i ≤ j → takes_in (take i es) ≤ takes_in (take j es)
takes_front es zero j le = omega arith
takes_front es (suc i) zero le = absurd (omega (arith, le))
takes_front [] (suc i) (suc j) le = omega arith
takes_front (Wake v ∷ es) (suc i) (suc j) le = takes_front es i j (omega (arith, le))
takes_front (Take v p ∷ es) (suc i) (suc j) le = let r = takes_front es i j (omega (arith, le)) in omega (arith, r)

takes_most : (es : List Event) (i : ℕ) → takes_in (take i es) ≤ takes_in es
takes_most es zero = omega arith
takes_most [] (suc i) = omega arith
takes_most (Wake v ∷ es) (suc i) = takes_most es i
takes_most (Take v p ∷ es) (suc i) = let r = takes_most es i in omega (arith, r)

takes_of_node : (v d : ℕ) → takes_in (events_at v d) ≡ d
takes_of_node v zero = refl
takes_of_node v (suc d) = let r = takes_of_node v d in let b = takes_both (events_at v d) (Take v d ∷ []) in omega (arith, r, b)

module _ (g : Network) where
  takes_to : (n : ℕ) → takes_in (events_to g n) ≡ sum_below n (λ i. length (g.ports (suc i)))
  takes_to zero = refl
  takes_to (suc n) =
      let r = takes_to n in
      let b = takes_both (events_to g n) (node_events g (suc n)) in
      let d = takes_of_node (suc n) (length (g.ports (suc n))) in
      omega (arith, r, b, d)

  -- the Takes that stand before a place
  abbrev takes_before : ℕ → ℕ
  takes_before i = takes_in (take i (all_events g))

  one_more : (v p : ℕ) → HasPlace g (Take v p) → takes_before (suc (place g (Take v p))) ≡ suc (takes_before (place g (Take v p)))
  one_more v p has =
      let at = place g (Take v p) in
      let is : get_or (all_events g) at (Take v p) ≡ Take v p =
      get_or_from_slice_get (all_events g) at (Take v p) (Take v p) (placed g (Take v p) has) in
      let split = take-suc (all_events g) at (Take v p) (place_within g (Take v p) has) in
      let b = takes_both (take at (all_events g)) (Take v p ∷ []) in
      ap takes_in (split ∙ ap (λ (x : Event). take at (all_events g) ++ x ∷ []) is) ∙ b ∙ omega arith

module _ (may : ℕ → Bool) (g : Shape) (graph : IsGraph g) where
  abbrev net : Network
  net = network_of g

  abbrev all_takes : ℕ
  all_takes = takes_in (all_events net)

  pub two_for_each : all_takes ≡ 2 * length g.keys
  two_for_each = takes_to net g.nodes ∙ twice_links g graph

  all_are : length (all_events net) ≡ g.nodes + all_takes
  all_are = let l = length_to net g.nodes in let t = takes_to net g.nodes in omega (arith, l, t)

  -- After some events of a run: no wake that may happen is behind, and none is left after the first lap; so then only Takes are counted.
  record Counted (w : Net) (many laps from : ℕ) : Type 0 where
    within : from ≤ length (all_events net)
    wakes : (v : ℕ) → is_lawful_under may net w (Wake v) ≡ true → (laps ≡ 0) × (from ≤ place net (Wake v))
    first : laps ≡ 0 → many ≤ from
    later : 1 ≤ laps → many ≤ g.nodes + (laps * all_takes + takes_before net from)

  -- one event more
  module _ (w x : Net) (many laps from : ℕ) (c : Counted w many laps from) (e : Event)
      (asleep : (v : ℕ) → (x.node v).head.phase ≡ Sleeping → (w.node v).head.phase ≡ Sleeping)
      (awake : (x.node (event_node e)).head.phase ≢ Sleeping) where
    -- who may wake behind it might before it
    wake_before : (v : ℕ) → is_lawful_under may net x (Wake v) ≡ true → is_lawful_under may net w (Wake v) ≡ true
    wake_before v t =
        let a = and_parts (may v) (is_lawful net x (Wake v)) t in
        let b = and_parts (is_node net v) (is_sleeping (x.node v).head.phase) a.1 in
        and_from (may v) (is_lawful net w (Wake v)) a.0
        (and_from (is_node net v) (is_sleeping (w.node v).head.phase) b.0 (ap is_sleeping (asleep v (sleeps may net x v t))))

    in_lap : IsFirstFrom may net w from e → Counted x (suc many) laps (suc (place net e))
    in_lap next = record {
      within = place_within net e there;
      wakes = λ v t.
          let before = wake_before v t in
          let z = c.wakes v before in
          let le = next.first (Wake v) before z.1 in (
            z.0,
            ⊎_elim
                (λ (same : place net e ≡ place net (Wake v)).
                let is : e ≡ Wake v = place_apart net e (Wake v) there (lawful_place may net w (Wake v) before) same in
                absurd (awake (subst (λ u. (x.node u).head.phase ≡ Sleeping) (sym (ap event_node is)) (sleeps may net x v t))))
                (λ other. omega (arith, le, other))
                (cases_eq (place net e) (place net (Wake v))),
          );
      first = λ none. let le = c.first none in let here = next.here in omega (arith, le, here);
      later = λ some. counted e next.lawful next.here some;
    }
      where
        there : HasPlace net e
        there = lawful_place may net w e next.lawful

        counted : (f : Event) → is_lawful_under may net w f ≡ true → from ≤ place net f → 1 ≤ laps →
            suc many ≤ g.nodes + (laps * all_takes + takes_before net (suc (place net f)))
        counted (Wake v) lawful here some = absurd (let none = (c.wakes v lawful).0 in omega (arith, none, some))
        counted (Take v p) lawful here some =
            let le = c.later some in
            let more = one_more net v p (lawful_place may net w (Take v p) lawful) in
            let rises = takes_front (all_events net) from (place net (Take v p)) here in
            omega (arith, le, more, rises)

    in_next : NoneFrom may net w from → IsFirstFrom may net w 0 e → Counted x (suc many) (suc laps) (suc (place net e))
    in_next none next = record {
      within = place_within net e (lawful_place may net w e next.lawful);
      wakes = λ v t.
          let before = wake_before v t in
          let le = (c.wakes v before).1 in
          let lt = none (Wake v) before in
          absurd (omega (arith, le, lt));
      first = λ z. absurd (omega (arith, z));
      later = λ some. counted e next.lawful;
    }
      where
        most : many ≤ g.nodes + (laps * all_takes + all_takes)
        most = ⊎_elim
            (λ (no : laps ≡ 0). let le = c.first no in let within = c.within in let all = all_are in omega (arith, le, within, all))
            (λ (yes : laps ≢ 0).
            let le = c.later (omega (arith, yes)) in let few = takes_most (all_events net) from in omega (arith, le, few))
            (cases_eq laps 0)

        counted : (f : Event) → is_lawful_under may net w f ≡ true →
            suc many ≤ g.nodes + (suc laps * all_takes + takes_before net (suc (place net f)))
        counted (Wake v) lawful = absurd (let le = (c.wakes v lawful).1 in let lt = none (Wake v) lawful in omega (arith, le, lt))
        counted (Take v p) lawful =
            let more = one_more net v p (lawful_place may net w (Take v p) lawful) in
            let product = suc-mul laps all_takes in
            let le = most in
            omega (arith, le, more, product)

  module _ (turns : ℕ) where
    -- a run's events are counted
    counted_of : {es : List Event} → IsPickedInTurn may g turns es →
        Counted (net_after g es) (length es) (laps_from net 0 es) (place_behind net es)
    counted_of Begun = record {
      within = omega arith;
      wakes = λ v t. (refl, omega arith);
      first = λ z. omega arith;
      later = λ z. absurd (omega (arith, z));
    }
    counted_of (Picked es e before going turn next) = ⊎_elim
        (λ (a : IsFirstFrom may net (net_after g es) (place_behind net es) e).
        same (laps_same net es e a.here)
        (in_lap (net_after g es) x (length es) (laps_from net 0 es) (place_behind net es) (counted_of before) e (asleep a.lawful) (awake a.lawful) a))
        (λ a.
        same (laps_next net es e (a.0 e a.1.lawful))
        (in_next (net_after g es) x (length es) (laps_from net 0 es) (place_behind net es) (counted_of before) e (asleep a.1.lawful)
        (awake a.1.lawful) a.0 a.1))
        next
      where
        x : Net
        x = net_after g (es ++ e ∷ [])

        asleep : is_lawful_under may net (net_after g es) e ≡ true → (v : ℕ) → (x.node v).head.phase ≡ Sleeping →
            ((net_after g es).node v).head.phase ≡ Sleeping
        asleep lawful =
            asleep_before net (graph_wired g graph) (net_after g es) x e
            (after_formed net (graph_wired g graph) (graph_few g graph) es (net_after g es) (picked_after may g graph turns before))
            (picked_more may g graph turns before e lawful)

        awake : is_lawful_under may net (net_after g es) e ≡ true → (x.node (event_node e)).head.phase ≢ Sleeping
        awake lawful =
            node_awake net (graph_wired g graph) (net_after g es) x e
            (after_formed net (graph_wired g graph) (graph_few g graph) es (net_after g es) (picked_after may g graph turns before))
            (picked_more may g graph turns before e lawful)

        same : {k : ℕ} → laps_from net 0 (es ++ e ∷ []) ≡ k → Counted x (suc (length es)) k (suc (place net e)) →
            Counted x (length (es ++ e ∷ [])) (laps_from net 0 (es ++ e ∷ [])) (place_behind net (es ++ e ∷ []))
        same laps c =
            let many : length (es ++ e ∷ []) ≡ suc (length es) = (let l = length_push es e in omega (arith, l)) in
            rw (many, laps, behind_more net 0 es e) c

    -- so there are few
    pub events_few : {es : List Event} → IsPickedInTurn may g turns es → (b : ℕ) → IsBound g.nodes (length g.keys) b → length es ≤ most_events g b
    events_few {es} before b bound =
        let c = counted_of before in
        let laps = laps_few may g graph turns before b bound in
        let k = laps_from net 0 es in
        let most : suc k * all_takes ≤ 2 * (b + g.nodes) * all_takes = mul-le-mul_right all_takes laps in
        let product = suc-mul k all_takes in
        let two = ap (λ n. 2 * (b + g.nodes) * n) two_for_each in
        ⊎_elim
        (λ (no : k ≡ 0). let le = c.first no in let within = c.within in let all = all_are in omega (arith, le, within, all, most, product, two))
        (λ (yes : k ≢ 0).
        let le = c.later (omega (arith, yes)) in
        let few = takes_most (all_events net) (place_behind net es) in
        omega (arith, le, few, most, product, two))
        (cases_eq k 0)

    -- and a wake is one of the first lap
    first_lap : {fs : List Event} → IsPickedInTurn may g turns fs → (es : List Event) (v : ℕ) → fs ≡ es ++ Wake v ∷ [] → laps_in net fs ≡ 1
    first_lap Begun es v is = absurd (none_less es (Wake v) is)
    first_lap (Picked fs e before going turn next) es v is =
        let c = counted_of before in
        let wake : e ≡ Wake v = last_is fs es e (Wake v) is in
        let lawful = subst (λ f. is_lawful_under may net (net_after g fs) f ≡ true) wake
        (next_lawful may net (net_after g fs) (place_behind net fs) e next) in
        let z = c.wakes v lawful in
        let none = z.0 in
        let same = laps_same net fs e (subst (λ f. place_behind net fs ≤ place net f) (sym wake) z.1) in
        omega (arith, none, same)

pub wakes_come_first : WakesComeFirst
wakes_come_first may g turns es v graph picked = first_lap may g graph turns picked es v refl
