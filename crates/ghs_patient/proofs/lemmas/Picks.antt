-- What a patient schedule picks is a patient choice, and there is one until the run has ended.
use Rattle.std.proofs.Common.{◌≡◌, ℕ, ◌<◌, ◌≤◌, Bool, true, false, not, List, [], ◌∷◌, length, filter, cond, refl, sym, ◌∙◌, ap, ap₂, subst, ⊎_elim, inl, inr, ◌⊎◌, arith}
use Rattle.std.specs.List.{Contains}
use Rattle.std.proofs.lemmas.Bool.{and_from, and_parts, cases_Bool}
use Rattle.ghs_graph.specs.Graph.{Shape, IsGraph}
use Rattle.ghs_graph.proofs.lemmas.Members.{filter_has, first_in, in_filter, later_in, nothing_in}
use Rattle.ghs_node.specs.declared.message.Message.{Message}
use Rattle.ghs_node.specs.Words.{is_sleeping}
use Rattle.peer_network.specs.declared.event.Event.{Event}
use Rattle.peer_network.specs.declared.event.Event.TheVariants.{Wake, Take}
use Rattle.ghs_protocol.specs.Laws.{IsNetOf}
use Rattle.ghs_protocol.specs.Living.{OneWaits}
use Rattle.ghs_protocol.specs.Marks.{HasEnded}
use Rattle.peer_network.specs.Network.{At, Network, network_of, is_node, is_port}
use Rattle.ghs_protocol.specs.Net.{Net, is_lawful_under, is_waiting}
use Rattle.peer_network.specs.Events.{event_node, MayWake}
use Rattle.ghs_protocol.specs.Run.{IsRun}
use Rattle.ghs_protocol.specs.Schedules.{A_wake, IsPatientIn, Moves_on, PatienceLasts, Uncovers}
use Rattle.peer_network.specs.Wakes.{AllMayWake}
use Rattle.ghs_protocol.specs.Steps.{Happens, Woke}
use Rattle.ghs_protocol.proofs.lemmas.Events.{taken_at}
use Rattle.peer_network.proofs.lemmas.Events.{is_node_of, is_port_of}
use Rattle.ghs_protocol.proofs.lemmas.Runs.{after_is_net, lawful_under}
use Rattle.ghs_core.specs.NetState.{IsLawful, NetState, net_of, network}
use Rattle.ghs_core.specs.Waits.{waits}
use Rattle.ghs_core.proofs.lemmas.Waiting.{waits_so, waits_test}
use Rattle.peer_index.specs.Places.{HasPlace, all_events}
use Rattle.ghs_world.specs.Outs.{Outs, is_out}
use Rattle.ghs_world.specs.Ready.{is_ready}
use Rattle.ghs_world.specs.WorldState.{WorldState, home, may_happen, wakers}
use Rattle.peer_index.proofs.lemmas.Listed.{listed}
use Rattle.peer_schedule.specs.Picks.{IsPick}
use Rattle.ghs_patient.specs.Patience.{first_waits, moves_on, or_else, patient_events, puts_back, second_goes, uncovers}
use Rattle.ghs_patient.specs.Choices.{has_second, is_double}
use Rattle.ghs_patient.proofs.lemmas.Picked.{in_either, picked_in, second_there, take_patient}
use Rattle.ghs_patient.proofs.lemmas.Places.{lawful_place, own_node, placed_of}

-- Lists.

agree_in : {X : Type 0} (p q : X → Bool) (xs : List X) → ((x : X) → Contains xs x → p x ≡ q x) → filter p xs ≡ filter q xs
agree_in p q [] h = refl
agree_in {X} p q (x ∷ xs) h =
    ap₂ (λ (b : Bool) (ys : List X). cond b (x ∷ ys) ys) (h x (first_in x xs)) (agree_in p q xs (λ y k. h y (later_in x y xs k)))

contains_some : {X : Type 0} (xs : List X) (x : X) → Contains xs x → 0 < length xs
contains_some xs x h = let lt = h.1 in omega (arith, lt)

some_of_either : (es fs : List Event) (e : Event) → Contains es e ⊎ (es ≡ [] → Contains fs e) → 0 < length (or_else es fs)
some_of_either [] fs e h = ⊎_elim (λ k. absurd (nothing_in e k)) (λ k. contains_some fs e (k refl)) h
some_of_either (x ∷ es) fs e h = omega arith

-- One net.
module _ (may : ℕ → Bool) (g : Network) (w : Net) where
  abbrev moving : List Event
  moving = filter (moves_on may g w) (all_events g)

  abbrev uncovering : List Event
  uncovering = filter (uncovers w) (all_events g)

  moving_has : (e : Event) → HasPlace g e → moves_on may g w e ≡ true → Contains moving e
  moving_has (Wake v) there t = filter_has (moves_on may g w) (all_events g) (Wake v) (listed g (Wake v) (is_node_of g v there.0 there.1)) t
  moving_has (Take v p) there t = filter_has (moves_on may g w) (all_events g) (Take v p) (listed g (Take v p) (is_port_of g v p there)) t

  -- where nothing moves the run on, each first message waits
  all_wait : moving ≡ [] → (v p : ℕ) → At g v p → (m : Message) (ms : List Message) → w.queue v p ≡ m ∷ ms → waits (w.node v) p m ≡ true
  all_wait none v p at m ms q = ⊎_elim (λ t. t) goes (cases_Bool (waits (w.node v) p m))
    where
      goes : waits (w.node v) p m ≡ false → waits (w.node v) p m ≡ true
      goes f =
          let lawful : is_lawful_under may g w (Take v p) ≡ true =
          and_from (is_port g v p) (is_waiting (w.queue v p)) (is_port_of g v p at) (ap is_waiting q) in
          let back : not (puts_back w (Take v p)) ≡ true = ap (λ x. not (first_waits (w.node v) p x)) q ∙ ap not f in
          absurd (nothing_in (Take v p) (subst (λ es. Contains es (Take v p)) none (moving_has (Take v p) at (and_from _ _ lawful back))))

  second_is : (v p : ℕ) (q : List Message) → w.queue v p ≡ q → moving ≡ [] → uncovers w (Take v p) ≡ true → IsPatientIn g w (Take v p)
  second_is v p [] e none t = absurd (let z : second_goes (w.node v) p [] ≡ true = ap (second_goes (w.node v) p) (sym e) ∙ t in cc)
  second_is v p (m ∷ []) e none t = absurd (let z : second_goes (w.node v) p (m ∷ []) ≡ true = ap (second_goes (w.node v) p) (sym e) ∙ t in cc)
  second_is v p (m ∷ (k ∷ ms)) e none t =
      Uncovers v p m k ms e
      (λ z. let f : not (waits (w.node v) p k) ≡ true = ap (second_goes (w.node v) p) (sym e) ∙ t in
      let y = waits_test (w.node v) p k z in cc (f, y))
      (λ u q at a rest is. waits_so (w.node u) q a (all_wait none u q at a rest is))

  patient_in : (e : Event) → Contains moving e ⊎ ((moving ≡ []) × Contains uncovering e) → IsPatientIn g w e
  patient_in (Wake v) h = A_wake v
  patient_in (Take v p) h = ⊎_elim
      (λ k. let t = and_parts _ _ (in_filter (moves_on may g w) (all_events g) (Take v p) k).1 in take_patient may g w v p (w.queue v p) refl t.0 t.1)
      (λ k. second_is v p (w.queue v p) refl k.0 (in_filter (uncovers w) (all_events g) (Take v p) k.1).1)
      h

  pub pick_is_patient : (words : List ℕ) (e : Event) → IsPick (patient_events may g w) words e → IsPatientIn g w e
  pick_is_patient words e h = patient_in e (in_either moving uncovering e (picked_in (patient_events may g w) words e h))

  -- what is picked is lawful
  lawful_in : (e : Event) → Contains moving e ⊎ ((moving ≡ []) × Contains uncovering e) → is_lawful_under may g w e ≡ true
  lawful_in e (inl k) = (and_parts _ _ (in_filter (moves_on may g w) (all_events g) e k).1).0
  lawful_in (Wake v) (inr k) = absurd (let t = (in_filter (uncovers w) (all_events g) (Wake v) k.1).1 in cc)
  lawful_in (Take v p) (inr k) =
      let t = in_filter (uncovers w) (all_events g) (Take v p) k.1 in
      and_from (is_port g v p) (is_waiting (w.queue v p)) (is_port_of g v p (placed_of g (Take v p) t.0))
      (second_there (w.node v) p (w.queue v p) t.1)

  pub pick_is_lawful : (words : List ℕ) (e : Event) → IsPick (patient_events may g w) words e → is_lawful_under may g w e ≡ true
  pick_is_lawful words e h = lawful_in e (in_either moving uncovering e (picked_in (patient_events may g w) words e h))

  -- a patient choice under the wake set stands among them
  wake_moves : {v : ℕ} {x : Net} → Happens g w (Wake v) x → may v ≡ true → Contains moving (Wake v)
  wake_moves (Woke v d lo hi s r) can =
      moving_has (Wake v) (lo, hi)
      (and_from _ _ (and_from (may v) _ can (and_from (is_node g v) (is_sleeping (w.node v).head.phase) (is_node_of g v lo hi) (ap is_sleeping s)))
      refl)

  choice_stands : (e : Event) (x : Net) → Happens g w e x → MayWake may e → IsPatientIn g w e →
      Contains moving e ⊎ (moving ≡ [] → Contains uncovering e)
  choice_stands _ x h can (A_wake v) = inl (wake_moves h can)
  choice_stands _ x h can (Moves_on v p m ms q goes) =
      let at = taken_at h in
      let f : waits (w.node v) p m ≡ false = ⊎_elim (λ t. absurd (goes (waits_so (w.node v) p m t))) (λ z. z) (cases_Bool (waits (w.node v) p m)) in
      inl (moving_has (Take v p) at
      (and_from _ _ (and_from (is_port g v p) (is_waiting (w.queue v p)) (is_port_of g v p at) (ap is_waiting q))
      (ap (λ x. not (first_waits (w.node v) p x)) q ∙ ap not f)))
  choice_stands _ x h can (Uncovers v p m k ms q goes all) =
      let at = taken_at h in
      let f : waits (w.node v) p k ≡ false = ⊎_elim (λ t. absurd (goes (waits_so (w.node v) p k t))) (λ z. z) (cases_Bool (waits (w.node v) p k)) in
      inr (λ none. filter_has (uncovers w) (all_events g) (Take v p) (listed g (Take v p) (is_port_of g v p at))
      (ap (second_goes (w.node v) p) q ∙ ap not f))

-- until the run has ended there is something to pick
pub some_patient : (g : Shape) (may : ℕ → Bool) (w : Net) → PatienceLasts → IsNetOf g w → AllMayWake may g → (HasEnded g w → ⊥) →
    0 < length (patient_events may (network_of g) w)
some_patient g may w law is all going = ⊎_elim
    (λ z. some_of_either _ _ z.0 (choice_stands may (network_of g) w z.0 z.1 z.2 z.3 z.4))
    (λ ended. absurd (going ended))
    (law g may w is all)

-- where nothing moves the run on, a second message does
pub seconds_go : (g : Shape) (may : ℕ → Bool) (w : Net) → OneWaits → IsNetOf g w →
    filter (moves_on may (network_of g) w) (all_events (network_of g)) ≡ [] →
    filter (is_double w) (all_events (network_of g)) ≡ filter (uncovers w) (all_events (network_of g))
seconds_go g may w law is none = agree_in (is_double w) (uncovers w) (all_events (network_of g)) same
  where
    second : (v p : ℕ) → At (network_of g) v p → (q : List Message) → w.queue v p ≡ q → has_second q ≡ second_goes (w.node v) p q
    second v p at [] e = refl
    second v p at (m ∷ []) e = refl
    second v p at (m ∷ (k ∷ ms)) e =
        let first = waits_so (w.node v) p m (all_wait may (network_of g) w none v p at m (k ∷ ms) e) in
        let f : waits (w.node v) p k ≡ false =
        ⊎_elim (λ t. absurd (law g w is v p at m k ms e first (waits_so (w.node v) p k t))) (λ z. z) (cases_Bool (waits (w.node v) p k)) in
        ap not (sym f)

    same : (e : Event) → Contains (all_events (network_of g)) e → is_double w e ≡ uncovers w e
    same (Wake v) h = refl
    same (Take v p) h = second v p (placed_of (network_of g) (Take v p) h) (w.queue v p) refl

-- What a pick of a world's words gives.
pub record Pickable (s : WorldState) (e : Event) : Type 0 where
  pub place : HasPlace (network s.net) e
  pub low : 1 ≤ event_node e
  pub high : event_node e ≤ s.net.graph.nodes
  pub lawful : IsLawful s.net e
  pub ready : is_ready s e ≡ true
  pub patient : IsPatientIn (network s.net) (home s) e

pub pickable : (s : WorldState) (words : List ℕ) (e : Event) → s.outs ≡ [] →
    IsPick (patient_events (wakers s) (network s.net) (home s)) words e → Pickable s e
pickable s words e out h =
    let lawful = pick_is_lawful (wakers s) (network s.net) (home s) words e h in
    let there = lawful_place (wakers s) (network s.net) (home s) e lawful in
    let own = own_node (network s.net) e there in
    record {
      place = there;
      low = own.0;
      high = own.1;
      lawful = ((lawful_under (wakers s) (network s.net) (home s) e).0 lawful).1;
      ready = and_from (not (is_out s.outs (event_node e))) (may_happen s e) (ap (λ (o : Outs). not (is_out o (event_node e))) out) lawful;
      patient = pick_is_patient (wakers s) (network s.net) (home s) words e h;
    }

pub is_net : (n : NetState) → IsGraph n.graph → IsRun (network n) n.trace → IsNetOf n.graph (net_of n)
is_net n ok r = record { graph = ok; events = n.trace; run = after_is_net n.graph n.trace r }
