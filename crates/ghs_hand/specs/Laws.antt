-- What holds of the events that are offered.
use Rattle.std.specs.Prelude.{◌≡◌, ◌↔◌, List, [], ◌∷◌, ◌++◌}
use Rattle.std.specs.List.{Contains}
use Rattle.ghs_graph.specs.Graph.{IsGraph}
use Rattle.peer_network.specs.declared.event.Event.{Event}
use Rattle.ghs_protocol.specs.Run.{IsRunUnder}
use Rattle.ghs_core.specs.NetState.{network}
use Rattle.ghs_world.specs.Ready.{ready_events}
use Rattle.ghs_world.specs.WorldState.{WorldState, wakers}

-- in a world from which nothing is out an event is among those that may come next exactly where the trace with it added is a run
abbrev pub OfferedAreNext : Type 0
OfferedAreNext =
    (w : WorldState) → IsGraph w.net.graph → w.outs ≡ [] →
    IsRunUnder (wakers w) (network w.net) w.net.trace →
    (e : Event) →
    (Contains (ready_events w) e ↔ IsRunUnder (wakers w) (network w.net) (w.net.trace ++ e ∷ []))
