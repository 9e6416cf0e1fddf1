-- What a net is seen as: a graph and the events that were played on it, and the room beside.
use Rattle.std.specs.Prelude.{◌≡◌, ℕ, ◌+◌, ◌≤◌, ◌<◌, Option, Some, List, [], ◌∷◌, length, Bool, true}
use Rattle.ghs_graph.specs.Graph.{Shape}
use Rattle.ghs_node.specs.declared.message.Message.{Message}
use Rattle.ghs_node.specs.declared.delta.Delta.{Delta}
use Rattle.ghs_node.specs.declared.work.Work.{Work}
use Rattle.ghs_node.specs.declared.work.Work.TheVariants as works
use Rattle.ghs_node.specs.Reaction.{reaction}
use Rattle.peer_channels.specs.Channels.{ChannelsState, HasRoomFor, KeepsLists, room_at}
use Rattle.peer_network.specs.declared.event.Event.{Event}
use Rattle.peer_network.specs.declared.event.Event.TheVariants.{Wake, Take}
use Rattle.peer_network.specs.Network.{Network, network_of, At}
pub use Rattle.peer_network.specs.Events.{event_node}
use Rattle.ghs_protocol.specs.Net.{Net, is_lawful}
use Rattle.ghs_protocol.specs.Run.{net_after}
use Rattle.ghs_core.specs.Dispatch.{arriving}
use Rattle.ghs_core.specs.Halts.{IsLeast}

-- the graph and the trace; the queues with the room beside each, and for how many more events the trace has room
pub record NetState : Type 0 where
  pub graph : Shape
  pub trace : List Event
  pub channels : ChannelsState Message
  pub spare : ℕ

abbrev pub network : NetState → Network
network s = network_of s.graph

-- the machine's net after the events of the trace
abbrev pub net_of : NetState → Net
net_of s = net_after s.graph s.trace

-- the work that an event brings to its node
abbrev pub delivery : ℕ → List Message → Work
delivery p [] = works.Wake
delivery p (m ∷ ms) = works.Deliver p m

abbrev pub work_at : Net → Event → Work
work_at w (Wake v) = works.Wake
work_at w (Take v p) = delivery p (w.queue v p)

-- the event may happen
abbrev pub IsLawful : NetState → Event → Type 0
IsLawful s e = is_lawful (network s) (net_of s) e ≡ true

-- the reaction of the event's node to the event's work
abbrev pub IsAnswer : NetState → Event → Delta → Type 0
IsAnswer s e d = reaction ((net_of s).node (event_node e)) (work_at (net_of s) e) ≡ Some d

-- room for the event in the trace, and for the messages that the reaction sends
pub record HasRoomToPlay (s : NetState) (e : Event) (d : Delta) : Type 0 where
  pub trace : 0 < s.spare
  pub sends : HasRoomFor (event_node e) d.sends s.channels

-- no room is let go of: the event takes one place in the trace, and each message that comes in one in its queue
pub record KeepsRoom (old new : NetState) (e : Event) (d : Delta) : Type 0 where
  pub trace : old.spare ≤ new.spare + 1
  pub queues : (u r : ℕ) →
      At (network old) u r →
      room_at old.channels u r ≤ room_at new.channels u r + length (arriving (network old) (event_node e) d.sends u r)

-- the same net, and nowhere less room
pub record IsSameNet (old new : NetState) : Type 0 where
  pub graph : new.graph ≡ old.graph
  pub trace : new.trace ≡ old.trace
  pub channels : KeepsLists old.channels new.channels
  pub spare : old.spare ≤ new.spare

-- the same graph, and the same events played on it
abbrev pub IsSameRun : NetState → NetState → Type 0
IsSameRun s t = (s.graph ≡ t.graph) × (s.trace ≡ t.trace)

-- which nodes have halted, as core nodes
abbrev pub halted_in : Net → ℕ → Bool
halted_in w v = (w.node v).head.halted

-- the least node that has halted, if one has
abbrev pub IsLeastHalted : Network → Net → Option ℕ → Type 0
IsLeastHalted g w o = IsLeast (halted_in w) g.count o
