use Rattle.ghs_graph.specs.Graph.{Shape}
use Rattle.peer_channels.specs.Channels.{IsFor}
use Rattle.peer_net.proofs.Showing.{Sent}
use Rattle.peer_net.proofs.sending.send_all.Given as goal

abbrev pub invariant-loop-port : goal.invariant-loop-port
invariant-loop-port g l = (h : Shape) → IsFor h l.fn.channels → Sent h l.v l.sends l.port-index l.fn.channels l.channels
