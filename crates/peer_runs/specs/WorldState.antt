-- What a world is seen as: a net, and which nodes wake by themselves.
use Rattle.std.specs.Prelude.{◌≡◌, ℕ, Bool, Some, List, [], ◌∷◌, ◌++◌}
use Rattle.std.specs.List.{All}
use Rattle.peer_network.specs.declared.event.Event.{Event}
use Rattle.peer_network.specs.Events.{MayWake}
use Rattle.peer_index.specs.Index.{IndexState, IsIndexOf}
use Rattle.peer_network.specs.declared.wake_set.WakeSet.{WakeSet}
use Rattle.peer_network.specs.Wakes.{may_wake}
use Rattle.peer_machine.specs.Rules.{Rules}
use Rattle.peer_machine.specs.Net.{happens}
use Rattle.peer_net.specs.NetState.{NetState, network, net_of}
use Rattle.peer_runs.specs.Lawful.{is_lawful_under, lawful_events}

pub record WorldState : Type 0 where
  pub net : NetState
  pub wake : WakeSet

-- which nodes wake by themselves here
abbrev pub wakers : WorldState → ℕ → Bool
wakers s = may_wake s.net.graph s.wake

-- the event may happen in a net, under a wake set
abbrev pub lawful_in : {S M : Type 0} → Rules S M → NetState → WakeSet → Event → Bool
lawful_in r n wake e = is_lawful_under r (may_wake n.graph wake) (network n) (net_of r n) e

-- the event may happen now
abbrev pub is_ready : {S M : Type 0} → Rules S M → WorldState → Event → Bool
is_ready r s e = lawful_in r s.net s.wake e

-- all such events, by node, Wake before ports, ports rising
abbrev pub ready_events : {S M : Type 0} → Rules S M → WorldState → List Event
ready_events r s = lawful_events r (wakers s) s.net.graph s.net.trace

-- what every world keeps: who has woken by itself might, and the marked events are those that may happen
pub record IsWorld {S M : Type 0} (r : Rules S M) (n : NetState) (wake : WakeSet) (x : IndexState) : Type 0 where
  pub wakes : All (MayWake (may_wake n.graph wake)) n.trace
  pub index : IsIndexOf (network n) (lawful_in r n wake) x

-- the world has made exactly the event
pub record HasPlayed {S M : Type 0} (r : Rules S M) (old : WorldState) (e : Event) (new : WorldState) : Type 0 where
  pub graph : new.net.graph ≡ old.net.graph
  pub wake : new.wake ≡ old.wake
  pub trace : new.net.trace ≡ old.net.trace ++ e ∷ []
  pub event : happens r (network old.net) (net_of r old.net) e ≡ Some (net_of r new.net)
