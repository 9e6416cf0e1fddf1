use Rattle.ghs_graph.specs.Graph.{Shape}
use Rattle.peer_channels.specs.Channels.{IsFor}
use Rattle.ghs_core.proofs.Sending.{Sent}
use Rattle.ghs_core.proofs.dispatch.send_all.Given as goal

abbrev pub invariant-loop-port : goal.invariant-loop-port
invariant-loop-port l = (g : Shape) → IsFor g l.fn.channels → Sent g l.v l.sends l.port-index l.fn.channels l.channels l.fn.sent l.sent
