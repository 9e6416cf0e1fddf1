-- Patient runs: what they leave of a world and a schedule, and how long they are at most.
use Rattle.std.specs.Prelude.{ℕ, Bool, ◌+◌, ◌*◌, ◌≤◌, List, length}
use Rattle.ghs_graph.specs.Bound.{IsBound}
use Rattle.ghs_graph.specs.Graph.{Shape}
use Rattle.peer_network.specs.declared.event.Event.{Event}
use Rattle.peer_network.specs.Network.{network_of}
use Rattle.ghs_protocol.specs.Run.{net_after}
use Rattle.ghs_world.specs.WorldState.{WorldState}
use Rattle.ghs_sched.specs.Picks.{IsPickedAmong}
use Rattle.ghs_sched.specs.Runs.{HasRunAmong}
use Rattle.ghs_patient.specs.Patience.{patient_events}

-- the events that a patient schedule picks from after a trace
abbrev pub patient_after : (ℕ → Bool) → Shape → List Event → List Event
patient_after may g es = patient_events may (network_of g) (net_after g es)

-- A schedule has patiently picked the events by which a trace has grown, and has this state then: each where the run hadn't ended and turns were
-- left, of the events that moved the run on there, or of those that uncovered one where none did.
abbrev pub IsPatientlyPicked : (ℕ → Bool) → Shape → ℕ → List Event → List ℕ → List Event → List ℕ → Type 0
IsPatientlyPicked may g turns trace words es s = IsPickedAmong patient_after may g turns trace words es s

-- a world has run on patiently
abbrev pub HasRun : WorldState → WorldState → List ℕ → List ℕ → Type 0
HasRun old new words after = HasRunAmong patient_after old new words after

-- it has grown by twice as many events as the bound on messages and the nodes together, at most
abbrev pub IsShort : WorldState → WorldState → Type 0
IsShort old new =
    (b : ℕ) → IsBound old.net.graph.nodes (length old.net.graph.keys) b → length new.net.trace ≤ length old.net.trace + 2 * (b + old.net.graph.nodes)

-- there are turns and ticket numbers for so many events
pub record HasTurns (s : WorldState) : Type 0 where
  pub bound : ℕ
  pub is : IsBound s.net.graph.nodes (length s.net.graph.keys) bound
  pub turns : length s.net.trace + 2 * (bound + s.net.graph.nodes) ≤ s.turns
  pub numbers : s.last + 2 * (bound + s.net.graph.nodes) ≤ 18446744073709551615
