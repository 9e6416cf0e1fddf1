-- What follows a run while it is made.
use Rattle.std.specs.Prelude.{◌≡◌, Some, List, [], ◌∷◌, ◌++◌}
use Rattle.ghs_graph.specs.Graph.{Shape}
use Rattle.peer_network.specs.declared.event.Event.{Event}
use Rattle.peer_machine.specs.Rules.{Rules, Outgoing}
use Rattle.peer_machine.specs.Net.{happens}
use Rattle.peer_net.specs.NetState.{NetState, network, net_of, AreSends, IsLawful}

-- a lawful event has led from net s to net t, and its node has sent ss
pub record HasHappened {S M : Type 0} (r : Rules S M) (s : NetState) (e : Event) (t : NetState) (ss : Outgoing M) : Type 0 where
  pub lawful : IsLawful r s e
  pub graph : t.graph ≡ s.graph
  pub trace : t.trace ≡ s.trace ++ e ∷ []
  pub event : happens r (network s) (net_of r s) e ≡ Some (net_of r t)
  pub sends : AreSends r s e ss

-- An event has led to net t from one that was seen before it, and what is kept is of the run up to it. F is the type of what is kept, V of what was
-- seen.
pub record IsBehind {S M F V : Type 0} (r : Rules S M) (is_of : Shape → List Event → F → Type 0) (has_seen : NetState → Event → V → Type 0)
    (old : F) (looked : V) (e : Event) (t : NetState) (ss : Outgoing M) : Type 0 where
  pub before : NetState
  pub happened : HasHappened r before e t ss
  pub seen : has_seen before e looked
  pub kept : is_of before.graph before.trace old
