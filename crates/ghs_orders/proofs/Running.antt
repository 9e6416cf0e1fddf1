-- What such a run keeps.
use Rattle.std.proofs.Common.{◌≡◌, ℕ, true, not, List, [], ◌∷◌, ◌++◌, refl, ap, subst₂, ⊎_elim}
use Rattle.std.proofs.lemmas.Bool.{and_from, and_parts}
use Rattle.ghs_graph.specs.Graph.{Shape}
use Rattle.peer_network.specs.declared.event.Event.{Event}
use Rattle.peer_network.specs.declared.event.Event.TheVariants.{Wake, Take}
use Rattle.ghs_protocol.specs.Marks.{HasEnded}
use Rattle.peer_network.specs.Network.{is_port, network_of}
use Rattle.ghs_protocol.specs.Run.{net_after}
use Rattle.peer_network.proofs.lemmas.Events.{at_of}
use Rattle.ghs_core.specs.NetState.{network}
use Rattle.peer_index.specs.Places.{HasPlace}
use Rattle.peer_network.specs.declared.wake_set.WakeSet.{WakeSet}
use Rattle.ghs_world.specs.Outs.{Outs, is_out}
use Rattle.peer_network.specs.Wakes.{may_wake}
use Rattle.ghs_world.specs.WorldState.{WorldState, has_turn, home, may_happen, wakers}
use Rattle.peer_schedule.specs.Picks.{IsPick}
use Rattle.ghs_sched.proofs.lemmas.Runs.{run_more, still_going, turn_left}
use Rattle.ghs_patient.specs.Keeping.{HasGone, HasGoneOn}
use Rattle.ghs_patient.specs.Patience.{patient_events}
use Rattle.ghs_patient.proofs.lemmas.Gone.{gone_grown, gone_run}
use Rattle.ghs_patient.proofs.lemmas.Growing.{HasGrown}
use Rattle.ghs_patient.proofs.lemmas.Picked.{take_patient}
use Rattle.ghs_patient.proofs.lemmas.Picks.{Pickable}
use Rattle.ghs_patient.proofs.lemmas.Picks as patient
use Rattle.ghs_orders.specs.Latest.{IsLatest, NoTakeMoves}
use Rattle.ghs_orders.specs.Newest.{newest_of}
use Rattle.ghs_orders.specs.LifoRuns.{Begun, HasRun, IsLatestIn, IsNext, IsPickedFrom, IsPickedLast, Latest, NoTakeMovesIn, Picked}

-- What is next is lawful and patient.

latest_pickable : (s : WorldState) (e : Event) → s.outs ≡ [] → IsLatestIn s e → Pickable s e
latest_pickable s (Wake v) out h = absurd h
latest_pickable s (Take v p) out h =
    let t = and_parts _ _ h.0 in
    let at = at_of (network s.net) v p (and_parts (is_port (network s.net) v p) _ t.0).0 in
    record {
      place = at;
      low = at.some;
      high = at.node;
      lawful = t.0;
      ready = and_from (not (is_out s.outs v)) (may_happen s (Take v p)) (ap (λ (o : Outs). not (is_out o v)) out) t.0;
      patient = take_patient (wakers s) (network s.net) (home s) v p ((home s).queue v p) refl t.0 t.1;
    }

pub latest_place : (s : WorldState) (e : Event) → IsLatestIn s e → HasPlace (network s.net) e
latest_place s (Wake v) h = absurd h
latest_place s (Take v p) h = at_of (network s.net) v p (and_parts (is_port (network s.net) v p) _ (and_parts _ _ h.0).0).0

pub pickable : (s : WorldState) (words : List ℕ) (e : Event) (after : List ℕ) → s.outs ≡ [] → IsNext s words e after → Pickable s e
pickable s words e after out next = ⊎_elim (λ h. latest_pickable s e out h.0) (λ h. patient.pickable s words e out h.1) next

-- one event more is picked
module _ (old s : WorldState) (words used : List ℕ) (run : HasRun old s words used) where
  same_latest : (e : Event) → IsLatestIn s e →
      IsLatest (wakers old) (network_of old.net.graph) (net_after old.net.graph s.net.trace) (newest_of (network_of old.net.graph) s.net.trace) e
  same_latest e h =
      let P : Shape → WakeSet → Type 0 = λ (g : Shape) (w : WakeSet).
      IsLatest (may_wake g w) (network_of g) (net_after g s.net.trace) (newest_of (network_of g) s.net.trace) e in
      subst₂ P run.graph run.wake h

  same_none : NoTakeMovesIn s → NoTakeMoves (wakers old) (network_of old.net.graph) (net_after old.net.graph s.net.trace)
  same_none h =
      let P : Shape → WakeSet → Type 0 = λ (g : Shape) (w : WakeSet). NoTakeMoves (may_wake g w) (network_of g) (net_after g s.net.trace) in
      subst₂ P run.graph run.wake h

  same_pick : (e : Event) → IsPick (patient_events (wakers s) (network s.net) (home s)) used e →
      IsPick (patient_events (wakers old) (network_of old.net.graph) (net_after old.net.graph s.net.trace)) used e
  same_pick e h =
      let P : Shape → WakeSet → Type 0 = λ (g : Shape) (w : WakeSet).
      IsPick (patient_events (may_wake g w) (network_of g) (net_after g s.net.trace)) used e in
      subst₂ P run.graph run.wake h

  pub picked_more : (HasEnded s.net.graph (home s) → ⊥) → has_turn s ≡ true → (e : Event) (after : List ℕ) → IsNext s used e after →
      IsPickedLast (wakers old) old.net.graph old.turns old.net.trace words (s.net.trace ++ e ∷ []) after
  picked_more going turn e after next =
      let still = still_going old s run.graph going in
      let few = turn_left old s run.turns turn in
      ⊎_elim
      (λ h. rw h.1 (Latest s.net.trace used e run.picked still few (same_latest e h.0)))
      (λ h. rw h.2 (Picked s.net.trace used e run.picked still few (same_none h.0) (same_pick e h.1)))
      next

-- The whole run.
module _ (old : WorldState) (words : List ℕ) where
  one_more : (s new : WorldState) (used after : List ℕ) → HasRun old s words used → (HasEnded s.net.graph (home s) → ⊥) → has_turn s ≡ true →
      HasGoneOn IsNext s new used after → HasRun old new words after
  one_more s new used after run going turn on =
      run_more (IsPickedFrom old words) old s new used after on.event run on.made
      (picked_more old s words used run going turn on.event after on.next)

  pub last_run : {new : WorldState} {after : List ℕ} → HasGone IsNext (record old { outs = [] }) words new after → HasRun old new words after
  last_run gone = gone_run IsNext old words (IsPickedFrom old words) Begun one_more gone

  pub last_grown : {new : WorldState} {after : List ℕ} → HasGone IsNext (record old { outs = [] }) words new after →
      HasGrown old.net.graph old.net.trace new.net.trace
  last_grown gone =
      gone_grown IsNext old words (IsPickedFrom old words) Begun one_more
      (λ s used after e out next. (pickable s used e after out next).patient) gone
