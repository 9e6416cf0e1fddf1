use Rattle.std.proofs.Common.{drop}
use Rattle.peer_network.specs.Network.{network_of}
use Rattle.peer_machine.specs.Net.{event_node}
use Rattle.peer_picking.specs.Kept.{sent_to}
use Rattle.peer_picking.proofs.Sending.{IsSending}
use Rattle.peer_picking.proofs.rounds.send.Given as goal

abbrev pub invariant-loop-port : goal.invariant-loop-port
invariant-loop-port g l =
    IsSending (network_of l.graph) (event_node l.placed.event) (drop l.port-index l.sends) l.round
    (sent_to (network_of l.graph) (event_node l.placed.event) l.sends l.fn.round)
