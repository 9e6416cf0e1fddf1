use Rattle.std.proofs.Common.{◌≡◌, ◌+◌, drop}
use Rattle.peer_network.specs.Network.{network_of}
use Rattle.ghs_orders.specs.Kept.{AreFor, with_all}
use Rattle.ghs_orders.proofs.numbers.Numbers.send.Given as goal

abbrev pub invariant-loop-port : goal.invariant-loop-port
invariant-loop-port l = record {
  kept : AreFor (network_of l.graph) l.self;
  count : l.self.count ≡ l.fn.self.count + l.port-index;
  sent : with_all (network_of l.graph) l.v (drop l.port-index l.sends) l.self ≡ with_all (network_of l.graph) l.v l.sends l.fn.self;
}
