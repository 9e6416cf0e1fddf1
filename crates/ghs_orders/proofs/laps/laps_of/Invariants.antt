use Rattle.std.proofs.Common.{◌≡◌, suc, ◌≤◌, take}
use Rattle.peer_network.specs.Network.{network_of}
use Rattle.ghs_orders.specs.Laps.{HasPlaceIf, behind_last, laps_from}
use Rattle.ghs_orders.specs.Turns.{place_behind}
use Rattle.ghs_orders.proofs.laps.laps_of.Given as goal

abbrev pub invariant-loop-event : goal.invariant-loop-event
invariant-loop-event l = record {
  laps : l.laps ≡ suc (laps_from (network_of l.graph) 0 (take l.event-index l.events));
  few : l.laps ≤ suc l.event-index;
  behind : behind_last (network_of l.graph) l.last ≡ place_behind (network_of l.graph) (take l.event-index l.events);
  there : HasPlaceIf (network_of l.graph) l.last;
}
