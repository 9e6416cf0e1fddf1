use Rattle.std.proofs.Common.{◌≡◌, take}
use Rattle.peer_network.specs.Network.{network_of}
use Rattle.peer_chains.specs.Chains.{sent}
use Rattle.peer_chains.specs.Kept.{SamePlaces, seen}
use Rattle.peer_chains.proofs.chains.Chains.send.Given as goal

abbrev pub invariant-loop-port : goal.invariant-loop-port
invariant-loop-port g l = record {
  places : SamePlaces l.fn.self l.self;
  numbers : l.self.numbers ≡ l.fn.self.numbers;
  sent : seen l.self ≡ sent (network_of l.graph) l.v (take l.port-index l.sends) (seen l.fn.self);
}
