-- How a patient run grows, and that it is short.
use Rattle.std.proofs.Common.{◌≡◌, ℕ, ◌+◌, ◌*◌, ◌<◌, ◌≤◌, Bool, false, Some, List, [], ◌∷◌, ◌++◌, length, refl, sym, ◌∙◌, ap, ap₂, subst, ⊎_elim, arith, length-append, append_assoc, append-nil}
use Rattle.std.proofs.lemmas.Bool.{and_from, both_ways, lt-ltb}
use Rattle.std.proofs.lemmas.List.{length_push}
use Rattle.std.proofs.lemmas.Option.{same_Some}
use Rattle.ghs_graph.specs.Bound.{IsBound}
use Rattle.ghs_graph.specs.Graph.{Shape}
use Rattle.peer_network.specs.declared.event.Event.{Event}
use Rattle.ghs_protocol.specs.Laws.{IsNetOf}
use Rattle.ghs_protocol.specs.Marks.{HasEnded}
use Rattle.peer_network.specs.Network.{Network, network_of}
use Rattle.ghs_protocol.specs.Net.{Net, happens}
use Rattle.ghs_protocol.specs.Run.{and_then, net_after, run}
use Rattle.ghs_protocol.specs.Schedules.{And_then, IsPatient, IsPatientIn, No_more, PatienceLasts, PatientRunsAreShort}
use Rattle.peer_network.specs.Wakes.{AllMayWake}
use Rattle.ghs_protocol.specs.Steps.{Happens}
use Rattle.ghs_protocol.proofs.lemmas.Events.{happening, happens_so}
use Rattle.ghs_protocol.proofs.lemmas.Runs.{after_more, run_keeps, run_more}
use Rattle.ghs_core.specs.NetState.{network}
use Rattle.ghs_world.specs.Steps.{IsSameWorld, Makes}
use Rattle.ghs_world.specs.WorldState.{WorldState, has_turn, home, wakers}
use Rattle.peer_network.proofs.lemmas.Waking.{each_is_woken}
use Rattle.ghs_sched.proofs.lemmas.Runs.{still_going}
use Rattle.ghs_patient.specs.Runs.{HasTurns, IsShort}

-- one event more at the end
patient_more : (g : Network) (es : List Event) (w x y : Net) (e : Event) → IsPatient g w es → run g es w ≡ Some x → IsPatientIn g x e →
    Happens g x e y → IsPatient g w (es ++ e ∷ [])
patient_more g [] w x y e p r q h =
    let same : w ≡ x = same_Some w x r in
    And_then (subst (λ z. IsPatientIn g z e) (sym same) q) (subst (λ z. Happens g z e y) (sym same) h) No_more
patient_more g (f ∷ es) w x y e (And_then {x = z} one happens rest) r q h =
    And_then one happens (patient_more g es z x y e rest (sym (ap (λ o. and_then o (λ v. run g es v)) (happens_so happens)) ∙ r) q h)

-- a trace has grown patiently
pub record HasGrown (g : Shape) (trace new : List Event) : Type 0 where
  pub more : List Event
  pub whole : new ≡ trace ++ more
  pub patient : IsPatient (network_of g) (net_after g trace) more
  pub leads : run (network_of g) more (net_after g trace) ≡ Some (net_after g new)

pub grown_not : (g : Shape) (trace : List Event) → HasGrown g trace trace
grown_not g trace = record { more = []; whole = sym (append-nil trace); patient = No_more; leads = refl }

pub grown_more : (g : Shape) (trace es : List Event) (e : Event) → HasGrown g trace es → IsPatientIn (network_of g) (net_after g es) e →
    happens (network_of g) (net_after g es) e ≡ Some (net_after g (es ++ e ∷ [])) →
    HasGrown g trace (es ++ e ∷ [])
grown_more g trace es e grown patient made = record {
  more = grown.more ++ e ∷ [];
  whole = ap (λ x. x ++ e ∷ []) grown.whole ∙ append_assoc trace grown.more (e ∷ []);
  patient =
      patient_more (network_of g) grown.more (net_after g trace) (net_after g es) (net_after g (es ++ e ∷ [])) e grown.patient grown.leads patient
      (happening (network_of g) (net_after g es) (net_after g (es ++ e ∷ [])) e made);
  leads = run_more (network_of g) grown.more e (net_after g trace) (net_after g es) grown.leads ∙ made;
}

module _ (g : Shape) (trace new : List Event) (is : IsNetOf g (net_after g trace)) (grown : HasGrown g trace new) (law : PatientRunsAreShort) (b : ℕ)
    (bound : IsBound g.nodes (length g.keys) b) where
  pub short : length new ≤ length trace + 2 * (b + g.nodes)
  short =
      let few = law g (net_after g trace) is b bound grown.more grown.patient in
      let many = ap length grown.whole ∙ length-append trace grown.more in
      omega (arith, few, many)

  -- with one left where the run goes on
  pub shorter : (may : ℕ → Bool) → PatienceLasts → IsNetOf g (net_after g new) → AllMayWake may g → (HasEnded g (net_after g new) → ⊥) →
      length new < length trace + 2 * (b + g.nodes)
  shorter may lasts now all going = ⊎_elim
      (λ z.
      let more = patient_more (network_of g) grown.more (net_after g trace) (net_after g new) z.1 z.0 grown.patient grown.leads z.4 z.2 in
      let few = law g (net_after g trace) is b bound (grown.more ++ z.0 ∷ []) more in
      let one = length_push grown.more z.0 in
      let many = ap length grown.whole ∙ length-append trace grown.more in
      omega (arith, few, one, many))
      (λ ended. absurd (going ended))
      (lasts g may (net_after g new) now all)

-- A world's trace grows: not at first, by an event that is picked patiently, and not where memory is refused.
pub grown_begins : (s t : WorldState) → t ≡ record s { outs = [] } → HasGrown s.net.graph s.net.trace t.net.trace
grown_begins s t e = rw e (grown_not s.net.graph s.net.trace)

pub grown_next : (g : Shape) (trace : List Event) (s new : WorldState) (e : Event) → s.net.graph ≡ g → IsPatientIn (network s.net) (home s) e →
    Makes s e new →
    HasGrown g trace s.net.trace → HasGrown g trace new.net.trace
grown_next g trace s new e same patient made = subst
    (λ (x : Shape). HasGrown x trace s.net.trace → HasGrown x trace new.net.trace)
    same
    (λ grown. rw made.trace (grown_more s.net.graph trace s.net.trace e grown patient (made.event ∙ ap Some (ap₂ net_after made.graph made.trace))))

pub grown_stays : (g : Shape) (trace : List Event) (s new : WorldState) → IsSameWorld s new → HasGrown g trace s.net.trace →
    HasGrown g trace new.net.trace
grown_stays g trace s new same grown = rw same.net.trace grown

module _ (old s : WorldState) (is : IsNetOf old.net.graph (home old)) (grown : HasGrown old.net.graph old.net.trace s.net.trace)
    (law : PatientRunsAreShort) where
  pub is_short : IsShort old s
  is_short b bound = short old.net.graph old.net.trace s.net.trace is grown law b bound

  now : IsNetOf old.net.graph (net_after old.net.graph s.net.trace)
  now = run_keeps (network_of old.net.graph) (IsNetOf old.net.graph)
      (λ w x e i h. record { graph = i.graph; events = i.events ++ e ∷ []; run = after_more (network_of old.net.graph) i.events e w x i.run h })
      grown.more (home old) (net_after old.net.graph s.net.trace) is grown.leads

  -- turns are left where there were enough, and the run goes on
  pub turns_left : s.net.graph ≡ old.net.graph → s.turns ≡ old.turns → s.outs ≡ [] → s.last + length old.net.trace ≡ old.last + length s.net.trace →
      PatienceLasts → (HasEnded s.net.graph (home s) → ⊥) → has_turn s ≡ false → HasTurns old → ⊥
  turns_left graph same outs used lasts going none enough =
      let lt = shorter old.net.graph old.net.trace s.net.trace is grown law enough.bound enough.is (wakers old) lasts now
      (each_is_woken old.net.graph old.wake is.graph) (still_going old s graph going) in
      let turns = enough.turns in
      let numbers = enough.numbers in
      let home : length s.outs ≡ 0 = ap length outs in
      both_ways (has_turn s) none (and_from _ _ (lt-ltb (length s.net.trace + length s.outs) s.turns (omega (arith, lt, turns, same, home)))
      (lt-ltb s.last 18446744073709551615 (omega (arith, lt, numbers, used))))
