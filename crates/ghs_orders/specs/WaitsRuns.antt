-- Runs that prefer what waits: what they leave of a world and a schedule.
use Rattle.std.specs.Prelude.{ℕ, Bool, List}
use Rattle.ghs_graph.specs.Graph.{Shape}
use Rattle.peer_network.specs.declared.event.Event.{Event}
use Rattle.peer_network.specs.Network.{network_of}
use Rattle.ghs_protocol.specs.Run.{net_after}
use Rattle.ghs_world.specs.WorldState.{WorldState}
use Rattle.ghs_sched.specs.Picks.{IsPickedAmong}
use Rattle.ghs_sched.specs.Runs.{HasRunAmong}
use Rattle.ghs_orders.specs.Waiting.{waiting_events}

-- the events that such a schedule picks from after a trace
abbrev pub waiting_after : (ℕ → Bool) → Shape → List Event → List Event
waiting_after may g es = waiting_events may (network_of g) (net_after g es)

-- A schedule that prefers what waits has picked the events by which a trace has grown, and has this state then: each where the run hadn't ended
-- and turns were left, of the events that only put their message back there, or of all lawful ones where none did.
abbrev pub IsPickedWaiting : (ℕ → Bool) → Shape → ℕ → List Event → List ℕ → List Event → List ℕ → Type 0
IsPickedWaiting may g turns trace words es s = IsPickedAmong waiting_after may g turns trace words es s

-- a world has run on so
abbrev pub HasRun : WorldState → WorldState → List ℕ → List ℕ → Type 0
HasRun old new words after = HasRunAmong waiting_after old new words after
