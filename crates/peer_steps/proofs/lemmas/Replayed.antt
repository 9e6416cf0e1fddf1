-- A world that was played again.
use Rattle.std.proofs.Common.{List}
use Rattle.ghs_graph.specs.Graph.{Shape}
use Rattle.peer_network.specs.declared.event.Event.{Event}
use Rattle.peer_network.specs.Network.{network_of}
use Rattle.peer_network.specs.declared.wake_set.WakeSet.{WakeSet}
use Rattle.peer_network.specs.Wakes.{may_wake}
use Rattle.peer_machine.specs.Rules.{Rules}
use Rattle.peer_machine.specs.Run.{IsRunUnder}
use Rattle.peer_net.specs.NetState.{network}
use Rattle.peer_runs.specs.Replays.{HasReplayed}
use Rattle.peer_runs.specs.WorldState.{WorldState, wakers}

-- its events are a run
pub replayed : {S M : Type 0} (r : Rules S M) (g : Shape) (wake : WakeSet) (es : List Event) (s : WorldState) → HasReplayed g wake es s →
    IsRunUnder r (wakers s) (network s.net) s.net.trace → IsRunUnder r (may_wake g wake) (network_of g) es
replayed r g wake es s is run = rw (is.graph, is.wake_set, is.trace) at run
