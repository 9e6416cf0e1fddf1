-- What holds of the events that are offered.
use Rattle.std.specs.Prelude.{◌↔◌, [], ◌∷◌, ◌++◌}
use Rattle.std.specs.List.{Contains}
use Rattle.ghs_graph.specs.Graph.{IsGraph}
use Rattle.peer_network.specs.declared.event.Event.{Event}
use Rattle.peer_machine.specs.Rules.{Rules}
use Rattle.peer_machine.specs.Run.{IsRunUnder}
use Rattle.peer_net.specs.NetState.{network}
use Rattle.peer_runs.specs.WorldState.{WorldState, ready_events, wakers}

-- in a world an event is among those that may come next exactly where the trace with it added is a run
abbrev pub OfferedAreNext : {S M : Type 0} → Rules S M → Type 0
OfferedAreNext r =
    (w : WorldState) → IsGraph w.net.graph →
    IsRunUnder r (wakers w) (network w.net) w.net.trace →
    (e : Event) →
    (Contains (ready_events r w) e ↔ IsRunUnder r (wakers w) (network w.net) (w.net.trace ++ e ∷ []))
