-- What a net is seen as: a graph and the events that were played on it.
use Rattle.std.specs.Prelude.{◌≡◌, ℕ, Bool, true, false, Some, List, [], ◌∷◌}
use Rattle.ghs_graph.specs.Graph.{Shape}
use Rattle.peer_network.specs.declared.event.Event.{Event}
use Rattle.peer_network.specs.declared.event.Event.TheVariants as events
use Rattle.peer_network.specs.Network.{Network, network_of, At}
use Rattle.peer_machine.specs.declared.work.Work.{Work}
use Rattle.peer_machine.specs.declared.work.Work.TheVariants.{Wake, Deliver}
use Rattle.peer_machine.specs.Rules.{Rules, Outcome, Outgoing}
use Rattle.peer_machine.specs.Net.{Net, event_node, is_lawful}
use Rattle.peer_machine.specs.Run.{net_after}
pub use Rattle.peer_machine.specs.Ends.{IsSilent}

pub record NetState : Type 0 where
  pub graph : Shape
  pub trace : List Event

abbrev pub network : NetState → Network
network s = network_of s.graph

-- the machine's net after the events of the trace
abbrev pub net_of : {S M : Type 0} → Rules S M → NetState → Net S M
net_of r s = net_after r s.graph s.trace

-- the event may happen
abbrev pub IsLawful : {S M : Type 0} → Rules S M → NetState → Event → Type 0
IsLawful r s e = is_lawful r (network s) (net_of r s) e ≡ true

-- the work that an event brings to its node
abbrev pub delivery : {M : Type 0} → ℕ → List M → Work M
delivery p [] = Wake
delivery p (m ∷ ms) = Deliver p m

abbrev pub work_at : {S M : Type 0} → Net S M → Event → Work M
work_at w (events.Wake v) = Wake
work_at w (events.Take v p) = delivery p (w.queue v p)

-- whether the event takes a message that its node defers
abbrev pub is_deferred : {S M : Type 0} → Rules S M → Net S M → Event → Bool
is_deferred r w (events.Wake v) = false
is_deferred r w (events.Take v p) = r.defers (w.node v) (delivery p (w.queue v p))

-- the messages of the reaction of the event's node to what the event brings it
abbrev pub AreSends : {S M : Type 0} → Rules S M → NetState → Event → Outgoing M → Type 0
AreSends {S} {M} r s e ss =
    (o : Outcome S M) × (r.reaction ((net_of r s).node (event_node e)) (work_at (net_of r s) e) ≡ Some o) × (ss ≡ o.sends)
