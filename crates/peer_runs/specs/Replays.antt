-- Runs done again.
use Rattle.std.specs.Prelude.{◌≡◌, ℕ, ◌-◌, ◌≤◌, false, Some, List, take, slice_get}
use Rattle.ghs_graph.specs.Graph.{Shape}
use Rattle.peer_network.specs.declared.event.Event.{Event}
use Rattle.peer_network.specs.Network.{network_of}
use Rattle.peer_network.specs.declared.wake_set.WakeSet.{WakeSet}
use Rattle.peer_network.specs.Wakes.{may_wake}
use Rattle.peer_schedule.specs.declared.fault.ReplayFault.{ReplayFault}
use Rattle.peer_schedule.specs.declared.fault.ReplayFault.TheVariants.{NotLawful, Unforeseen, Memory}
use Rattle.peer_machine.specs.Rules.{Rules}
use Rattle.peer_machine.specs.Run.{IsRunUnder, net_after}
use Rattle.peer_runs.specs.Lawful.{is_lawful_under}
use Rattle.peer_runs.specs.WorldState.{WorldState}

-- the world of the graph after these events
pub record HasReplayed (g : Shape) (wake : WakeSet) (events : List Event) (s : WorldState) : Type 0 where
  pub graph : s.net.graph ≡ g
  pub wake_set : s.wake ≡ wake
  pub trace : s.net.trace ≡ events

module _ {S M : Type 0} (r : Rules S M) (g : Shape) (wake : WakeSet) (events : List Event) where
  -- event k, counted from 1, is the first that isn't lawful where it stands
  pub record IsFirstUnlawful (k : ℕ) : Type 0 where
    pub counted : 1 ≤ k
    pub event : Event
    pub here : slice_get events (k - 1) ≡ Some event
    pub before : IsRunUnder r (may_wake g wake) (network_of g) (take (k - 1) events)
    pub unlawful : is_lawful_under r (may_wake g wake) (network_of g) (net_after r g (take (k - 1) events)) event ≡ false

  -- why events can't be done again
  abbrev pub CantReplay : ReplayFault → Type 0
  CantReplay (NotLawful k) = IsFirstUnlawful k
  CantReplay (Unforeseen k) = ⊥
  CantReplay Memory = Unit {0}
