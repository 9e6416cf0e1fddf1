use Rattle.std.proofs.lemmas.List.Elements.{All-nil}
use Rattle.peer_network.specs.Events.{MayWake}
use Rattle.peer_network.specs.Wakes.{may_wake}
use Rattle.peer_runs.proofs.world.World.open.Goals as goal

pub invariant_of-result : goal.invariant_of-result
invariant_of-result g c = record {
  wakes = rw c.in_ok-net.ensures.trace (All-nil (MayWake (may_wake c.in_ok-net.net.graph c.args.wake)));
  index = c.in-Ok.ensures;
}
