-- Runs that go on by a seed from wherever they stand.
use Rattle.std.specs.Prelude.{◌≡◌, ◌≤◌, ℕ, Bool, true, false, List, length}
use Rattle.ghs_patient.specs.Runs.{IsPatientlyPicked}
use Rattle.peer_network.specs.declared.event.Event.{Event}
use Rattle.ghs_protocol.specs.Marks.{HasEnded}
use Rattle.ghs_protocol.specs.Run.{net_after}
use Rattle.ghs_sched.specs.Picks.{IsPicked}
use Rattle.peer_schedule.specs.Schedule.{seeded}
use Rattle.ghs_world.specs.WorldState.{WorldState, wakers}
use Rattle.peer_hand.specs.declared.fault.HandFault.{HandFault}
use Rattle.peer_hand.specs.declared.fault.HandFault.TheVariants.{TurnLimit, Memory}

-- from a world on a seed's schedule has picked the events by which its trace has grown to these: among all that may
-- happen or, patiently (true), among those that move the run on
abbrev pub GoesOnTo : Bool → ℕ → WorldState → List Event → Type 0
GoesOnTo false seed w es = (words : List ℕ) × IsPicked (wakers w) w.net.graph w.turns w.net.trace (seeded seed) es words
GoesOnTo true seed w es = (words : List ℕ) × IsPatientlyPicked (wakers w) w.net.graph w.turns w.net.trace (seeded seed) es words

-- and with these the run has ended; no schedule picks behind that
pub record HasGoneOn (patient : Bool) (seed : ℕ) (w : WorldState) (es : List Event) : Type 0 where
  pub picked : GoesOnTo patient seed w es
  pub ended : HasEnded w.net.graph (net_after w.net.graph es)

-- and with these no turn is left, and the run goes on
pub record HasStopped (patient : Bool) (seed : ℕ) (w : WorldState) (es : List Event) : Type 0 where
  pub picked : GoesOnTo patient seed w es
  pub used : length es ≡ w.turns
  pub goes_on : HasEnded w.net.graph (net_after w.net.graph es) → ⊥

-- why a run stops before its end
abbrev pub StopsFor : Bool → ℕ → WorldState → List Event → HandFault → Type 0
StopsFor patient seed w es TurnLimit = HasStopped patient seed w es
StopsFor patient seed w es Memory = Unit {0}
StopsFor patient seed w es _ = ⊥
