-- What tickets and steps are seen as.
use Rattle.std.specs.Prelude.{ℕ, IsSome}
use Rattle.ghs_node.specs.declared.delta.Delta.{Delta}
use Rattle.ghs_node.specs.declared.work.Work.{Work}
use Rattle.ghs_node.specs.NodeState.{NodeState}
use Rattle.ghs_node.specs.Reaction.{reaction, HasPort}
use Rattle.ghs_node.specs.Rows.{Row}
use Rattle.peer_network.specs.declared.event.Event.{Event}

-- a node, its event and its work, under a number
pub record TicketState : Type 0 where
  pub number : ℕ
  pub event : Event
  pub node : NodeState
  pub work : Work

-- a ticket, and what its node does with its work
pub record StepState : Type 0 where
  pub ticket : TicketState
  pub delta : Delta

-- the work comes in at a port of the node, and the node has a reaction to it
pub record HasRule (n : NodeState) (k : Work) : Type 0 where
  pub port : HasPort n k
  pub rule : IsSome (reaction n k)

-- what every step keeps: its delta is the table's row for the node and the work that it carries
pub record IsStep (s : StepState) : Type 0 where
  pub rule : HasRule s.ticket.node s.ticket.work
  pub row : Row s.ticket.node s.ticket.work s.delta
