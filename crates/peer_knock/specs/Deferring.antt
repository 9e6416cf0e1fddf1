-- How often a run defers.
use Rattle.std.specs.Prelude.{ℕ, Bool, List}
use Rattle.ghs_graph.specs.Graph.{Shape}
use Rattle.peer_network.specs.declared.event.Event.{Event}
use Rattle.peer_machine.specs.Run.{net_after}
use Rattle.peer_knock.specs.Knock.{knocking}

-- how many times the run of these events defers a knock, by the rules for patient sleepers or for others
abbrev pub times_deferred : Bool → Shape → List Event → ℕ
times_deferred patient g es = (net_after (knocking patient) g es).deferred
