-- A run by round robin is cut into laps, of which there are few.
use Rattle.std.proofs.Common.{◌≡◌, ◌≢◌, ℕ, suc, ◌+◌, ◌*◌, ◌≤◌, Bool, true, Some, List, [], ◌∷◌, ◌++◌, length, refl, sym, ◌∙◌, ap, subst, ◌⊎◌, inl, inr, ⊎_elim, arith, append-nil}
use Rattle.std.specs.List.{flat_map}
use Rattle.std.proofs.lemmas.Bool.{both_ways, and_from, cases_eq}
use Rattle.std.proofs.lemmas.List.{append_assoc}
use Rattle.ghs_graph.specs.Bound.{IsBound}
use Rattle.ghs_graph.specs.Graph.{Shape, IsGraph}
use Rattle.ghs_node.specs.declared.message.Message.{Message}
use Rattle.peer_network.specs.declared.event.Event.{Event}
use Rattle.peer_network.specs.declared.event.Event.TheVariants.{Take}
use Rattle.peer_network.specs.Network.{At, Network, is_port, network_of}
use Rattle.peer_network.proofs.lemmas.Events.{is_port_of}
use Rattle.peer_index.specs.Places.{place}
use Rattle.peer_index.proofs.lemmas.Places.{place_apart}
use Rattle.ghs_protocol.specs.Fairness.{Ends, Goes, IsCut, IsLap}
use Rattle.ghs_protocol.specs.Laws.{IsNetOf}
use Rattle.ghs_protocol.specs.Living.{Now, Soon, Stands}
use Rattle.ghs_protocol.specs.Net.{Net, is_lawful_under, is_waiting, opening}
use Rattle.ghs_protocol.specs.Run.{net_after, run}
use Rattle.ghs_protocol.specs.Steps.{Happens}
use Rattle.ghs_protocol.proofs.lemmas.Events.{happens_so}
use Rattle.ghs_protocol.proofs.lemmas.Laws.{all_taken_is_lap, laps_are, laps_are_few}
use Rattle.ghs_protocol.proofs.lemmas.Runs.{run_joins, run_more}
use Rattle.ghs_orders.proofs.Picked.{behind_more, laps_next, laps_same, picked_after, picked_more, picked_net}
use Rattle.ghs_patient.proofs.lemmas.Places.{lawful_place}
use Rattle.ghs_orders.proofs.Staying.{waiting_stays}
use Rattle.ghs_orders.specs.Laps.{laps_from, laps_in}
use Rattle.ghs_orders.specs.RoundRobinLaws.{IsInLaps}
use Rattle.ghs_orders.specs.Picks.{Begun, IsPickedInTurn, Picked}
use Rattle.ghs_orders.specs.Turns.{IsFirstFrom, NoneFrom, place_behind}

-- an event of a list stands in a longer one
stands_among : {e : Event} (es : List Event) {fs : List Event} (gs : List Event) → Stands e fs → Stands e (es ++ fs ++ gs)
stands_among [] gs (Now {es = es}) = Now
stands_among [] gs (Soon s) = Soon (stands_among [] gs s)
stands_among (x ∷ es) gs s = Soon (stands_among es gs s)

some_waits : (q : List Message) → q ≢ [] → is_waiting q ≡ true
some_waits [] some = absurd (some refl)
some_waits (m ∷ q) some = refl

some_more : (es : List Event) (e : Event) (fs : List Event) → (es ++ e ∷ fs) ≢ []
some_more [] e fs z = cc
some_more (x ∷ es) e fs z = cc

-- laps in a row
abbrev in_row : List (List Event) → List Event
in_row ss = flat_map (λ (lap : List Event). lap) ss

some_left : (es fs : List Event) → es ≢ [] → (es ++ fs) ≢ []
some_left [] fs some z = some refl
some_left (x ∷ es) fs some z = cc

module _ (may : ℕ → Bool) (g : Shape) (graph : IsGraph g) where
  abbrev net : Network
  net = network_of g

  -- So many laps are over, and the net was this one then; since then the events of a lap have happened, which has come to a place: what waited when
  -- it began has been taken since, or still waits there or further on.
  record Stage (w : Net) (laps from : ℕ) : Type 0 where
    start : Net
    of_run : IsNetOf g start
    past : List Event
    lap : List Event
    leads : run net lap start ≡ Some w
    over : (ss : List (List Event)) → IsCut net (IsLap net) start ss →
        (rs : List (List Event)) × (length rs ≡ laps + length ss) × IsCut net (IsLap net) (opening net) rs × (in_row rs ≡ past ++ in_row ss)
    left : (v p : ℕ) → At net v p → is_waiting (start.queue v p) ≡ true →
        Stands (Take v p) lap ⊎ ((is_waiting (w.queue v p) ≡ true) × (from ≤ place net (Take v p)))

  lawful_take : (w : Net) (v p : ℕ) → At net v p → is_waiting (w.queue v p) ≡ true → is_lawful_under may net w (Take v p) ≡ true
  lawful_take w v p at t = and_from (is_port net v p) (is_waiting (w.queue v p)) (is_port_of net v p at) t

  -- the next event of the lap
  goes_on : (w x : Net) (laps from : ℕ) (e : Event) → (s : Stage w laps from) → IsFirstFrom may net w from e → Happens net w e x →
      (t : Stage x laps (suc (place net e))) × (t.lap ≢ []) × (t.past ++ t.lap ≡ s.past ++ s.lap ++ e ∷ [])
  goes_on w x laps from e s next h = (
    record {
      start = s.start;
      of_run = s.of_run;
      past = s.past;
      lap = s.lap ++ e ∷ [];
      leads = run_more net s.lap e s.start w s.leads ∙ happens_so h;
      over = s.over;
      left = λ v p at t. ⊎_elim (λ z. inl (stands_among [] (e ∷ []) z)) (λ z. still v p at z.0 z.1) (s.left v p at t);
    },
    some_more s.lap e [],
    sym (append_assoc s.past s.lap (e ∷ [])),
  )
    where
      taken : (v p : ℕ) → e ≡ Take v p → Stands (Take v p) (s.lap ++ e ∷ [])
      taken v p is = subst (Stands (Take v p)) (append-nil (s.lap ++ e ∷ [])) (stands_among s.lap [] (subst (λ f. Stands f (e ∷ [])) is Now))

      still : (v p : ℕ) → At net v p → is_waiting (w.queue v p) ≡ true → from ≤ place net (Take v p) →
          Stands (Take v p) (s.lap ++ e ∷ []) ⊎ ((is_waiting (x.queue v p) ≡ true) × (suc (place net e) ≤ place net (Take v p)))
      still v p at t le =
          let lawful = lawful_take w v p at t in
          let first = next.first (Take v p) lawful le in
          ⊎_elim
          (λ (same : place net e ≡ place net (Take v p)).
          inl (taken v p (place_apart net e (Take v p) (lawful_place may net w e next.lawful) at same)))
          (λ other. ⊎_elim
          (λ is. inl (taken v p is))
          (λ stays. inr (stays, omega (arith, first, other)))
          (waiting_stays net w x e h v p t))
          (cases_eq (place net e) (place net (Take v p)))

  -- a lap is over where nothing is left behind
  next_begins : (w : Net) (laps from : ℕ) → IsNetOf g w → (s : Stage w laps from) → s.lap ≢ [] → NoneFrom may net w from → Stage w (suc laps) 0
  next_begins w laps from is s some none = record {
    start = w;
    of_run = is;
    past = s.past ++ s.lap;
    lap = [];
    leads = refl;
    over = λ ss cut.
        let z = s.over (s.lap ∷ ss) (Goes some whole s.leads cut) in
        let l = z.1 in
        (z.0, omega (arith, l), z.2, z.3 ∙ sym (append_assoc s.past s.lap (in_row ss)));
    left = λ v p at t. inr (t, omega arith);
  }
    where
      whole : IsLap net s.start s.lap
      whole = all_taken_is_lap net s.start s.lap
          (λ v p at there. ⊎_elim
          (λ z. z)
          (λ z. absurd (let lt = none (Take v p) (lawful_take w v p at z.0) in let le = z.1 in omega (arith, lt, le)))
          (s.left v p at (some_waits (s.start.queue v p) there)))

  -- the laps so far, and one that can be finished
  finished : (w : Net) (laps from : ℕ) → IsNetOf g w → (s : Stage w laps from) → s.lap ≢ [] →
      (rest : List Event) × (length rest ≤ 2 * length g.keys) × (rs : List (List Event)) × (length rs ≡ suc laps) ×
      IsCut net (IsLap net) (opening net) rs × (in_row rs ≡ s.past ++ s.lap ++ rest)
  finished w laps from is s some =
      let more = laps_are g w is in
      let whole : IsLap net s.start (s.lap ++ more.events) = all_taken_is_lap net s.start (s.lap ++ more.events)
      (λ v p at there. ⊎_elim
      (λ z. stands_among [] more.events z)
      (λ z.
      let rest = more.taken v p at (λ none. both_ways (is_waiting (w.queue v p)) (ap is_waiting none) z.0) in
      subst (Stands (Take v p)) (append-nil (s.lap ++ more.events)) (stands_among s.lap [] rest))
      (s.left v p at (some_waits (s.start.queue v p) there))) in
      let cut = s.over ((s.lap ++ more.events) ∷ [])
      (Goes (some_left s.lap more.events some) whole (run_joins net s.lap more.events s.start w s.leads ∙ more.leads) Ends) in
      let l = cut.1 in (
        more.events,
        more.few,
        cut.0,
        omega (arith, l),
        cut.2,
        cut.3 ∙ ap (λ (fs : List Event). s.past ++ fs) (append-nil (s.lap ++ more.events)) ∙ sym (append_assoc s.past s.lap more.events),
      )

  few : (w : Net) (laps from : ℕ) → IsNetOf g w → (s : Stage w laps from) → s.lap ≢ [] → (b : ℕ) → IsBound g.nodes (length g.keys) b →
      suc laps ≤ 2 * (b + g.nodes)
  few w laps from is s some b bound =
      let f = finished w laps from is s some in
      let first : IsNetOf g (opening net) = record { graph = graph; events = []; run = refl } in
      let most = laps_are_few g (opening net) first b bound f.2 f.4 in
      let l = f.3 in
      omega (arith, most, l)

  -- Such a stage is kept from event to event; at the opening nothing has happened yet.
  record Cut (es : List Event) : Type 0 where
    laps : ℕ
    from : ℕ
    laps_is : laps_from net 0 es ≡ laps
    from_is : place_behind net es ≡ from
    stage : Stage (net_after g es) laps from
    parts : stage.past ++ stage.lap ≡ es
    some : (stage.lap ≢ []) ⊎ ((from ≡ 0) × (laps ≡ 0) × (es ≡ []))

  module _ (turns : ℕ) where
    in_lap : (es : List Event) (e : Event) → IsPickedInTurn may g turns es → Cut es → IsFirstFrom may net (net_after g es) (place_behind net es) e →
        Cut (es ++ e ∷ [])
    in_lap es e before c first =
        let then =
        goes_on (net_after g es) (net_after g (es ++ e ∷ [])) c.laps c.from e c.stage
        (subst (λ k. IsFirstFrom may net (net_after g es) k e) c.from_is first) (picked_more may g graph turns before e first.lawful) in
        record {
          laps = c.laps;
          from = suc (place net e);
          laps_is = laps_same net es e first.here ∙ c.laps_is;
          from_is = behind_more net 0 es e;
          stage = then.0;
          parts = then.2 ∙ ap (λ (fs : List Event). fs ++ e ∷ []) c.parts;
          some = inl then.1;
        }

    in_next : (es : List Event) (e : Event) → IsPickedInTurn may g turns es → Cut es → NoneFrom may net (net_after g es) (place_behind net es) →
        IsFirstFrom may net (net_after g es) 0 e → Cut (es ++ e ∷ [])
    unfolding next_begins
    in_next es e before c none first =
        let lt = none e first.lawful in
        let from_is = c.from_is in
        let some : c.stage.lap ≢ [] = ⊎_elim (λ z. z) (λ z. absurd (let zero_is = z.0 in omega (arith, lt, from_is, zero_is))) c.some in
        let next =
        next_begins (net_after g es) c.laps c.from (picked_net may g graph turns before) c.stage some
        (subst (NoneFrom may net (net_after g es)) c.from_is none) in
        let then =
        goes_on (net_after g es) (net_after g (es ++ e ∷ [])) (suc c.laps) 0 e next first (picked_more may g graph turns before e first.lawful) in
        record {
          laps = suc c.laps;
          from = suc (place net e);
          laps_is = laps_next net es e lt ∙ ap suc c.laps_is;
          from_is = behind_more net 0 es e;
          stage = then.0;
          parts = then.2 ∙ ap (λ (fs : List Event). fs ++ e ∷ []) (append-nil (c.stage.past ++ c.stage.lap) ∙ c.parts);
          some = inl then.1;
        }

    cut_of : {es : List Event} → IsPickedInTurn may g turns es → Cut es
    cut_of Begun = record {
      laps = 0;
      from = 0;
      laps_is = refl;
      from_is = refl;
      stage = record {
        start = opening net;
        of_run = record { graph = graph; events = []; run = refl };
        past = [];
        lap = [];
        leads = picked_after may g graph turns Begun;
        over = λ ss cut. (ss, omega arith, cut, refl);
        left = λ v p at t. cc;
      };
      parts = refl;
      some = inr (refl, refl, refl);
    }
    cut_of (Picked es e before going turn next) =
        let c = cut_of before in
        ⊎_elim (λ (a : IsFirstFrom may net (net_after g es) (place_behind net es) e). in_lap es e before c a)
        (λ a. in_next es e before c a.0 a.1) next

    -- so there are few
    pub laps_few : {es : List Event} → IsPickedInTurn may g turns es → (b : ℕ) → IsBound g.nodes (length g.keys) b →
        laps_in net es ≤ 2 * (b + g.nodes)
    laps_few {es} before b bound =
        let c = cut_of before in
        let is = c.laps_is in
        ⊎_elim
        (λ some. let le = few (net_after g es) c.laps c.from (picked_net may g graph turns before) c.stage some b bound in omega (arith, le, is))
        (λ z. let none = z.1 in let nodes = graph.some in omega (arith, none, is, nodes))
        c.some

    -- and each is one in which no port is passed over
    pub laps_fair : {es : List Event} → es ≢ [] → IsPickedInTurn may g turns es → IsInLaps g es
    laps_fair {es} more before =
        let c = cut_of before in
        let some : c.stage.lap ≢ [] = ⊎_elim (λ z. z) (λ z. absurd (more z.2)) c.some in
        let f = finished (net_after g es) c.laps c.from (picked_net may g graph turns before) c.stage some in
        let is = c.laps_is in
        let l = f.3 in
        record {
          laps = f.2;
          rest = f.0;
          all = f.5 ∙ ap (λ (fs : List Event). fs ++ f.0) c.parts;
          few = f.1;
          count = omega (arith, is, l);
          cut = f.4;
        }
