use Rattle.std.proofs.Common.{◌≡◌, ◌-◌, ◌++◌, filter}
use Rattle.ghs_core.specs.NetState.{network}
use Rattle.ghs_world.specs.Ready.{is_ready}
use Rattle.peer_index.specs.Places.{events_to, events_at}
use Rattle.ghs_world.proofs.world.World.ready.Given as goal

abbrev pub invariant-loop-v : goal.invariant-loop-v
invariant-loop-v l = l.events.items ≡ filter (is_ready l.self) (events_to (network l.self.net) (l.v - 1))

abbrev pub invariant-loop-port : goal.invariant-loop-port
invariant-loop-port l = l.events.items ≡ filter (is_ready l.self) (events_to (network l.self.net) (l.v - 1) ++ events_at l.v l.port)
