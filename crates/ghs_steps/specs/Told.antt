-- What a line says of a step, be it text or JSON.
use Rattle.std.specs.Prelude.{ℕ, List}
use Rattle.ghs_graph.specs.Graph.{Shape}
use Rattle.ghs_node.specs.declared.message.Message.{Message}
use Rattle.peer_network.specs.Network.{network_of, port_at}
use Rattle.ghs_steps.specs.declared.change.Change.{Change}
use Rattle.ghs_steps.specs.declared.moment.Moment.{Moment}
use Rattle.ghs_steps.specs.declared.sent.Sent.{Sent}

-- what node v sends on a port, and the node and the port where it will wait
abbrev pub sent_by : Shape → ℕ → ℕ × Message → Sent
sent_by g v s = let end = port_at (network_of g) v s.0 in record { port = s.0; to = end.far; at = end.far_port; message = s.1 }

-- number, event, far end, work, row, fate and total; what differs at the node; what it sends
pub record Told : Type 0 where
  pub moment : Moment
  pub changes : List Change
  pub sends : List Sent
