-- Runs done again.
use Rattle.std.specs.Prelude.{◌≡◌, ℕ, ◌-◌, ◌≤◌, false, Some, List, [], length, take, slice_get}
use Rattle.ghs_graph.specs.Graph.{Shape}
use Rattle.peer_network.specs.declared.event.Event.{Event}
use Rattle.peer_network.specs.Network.{network_of}
use Rattle.ghs_protocol.specs.Net.{is_lawful_under}
use Rattle.ghs_protocol.specs.Run.{net_after, IsRunUnder}
use Rattle.peer_network.specs.declared.wake_set.WakeSet.{WakeSet}
use Rattle.peer_network.specs.Wakes.{may_wake}
use Rattle.ghs_world.specs.WorldState.{WorldState}
use Rattle.peer_schedule.specs.declared.fault.ReplayFault.{ReplayFault}
use Rattle.peer_schedule.specs.declared.fault.ReplayFault.TheVariants.{NotLawful, Unforeseen, Memory}
use Rattle.peer_texts.specs.declared.trace.TheConstants.{EVENT_LIMIT}

-- the world of the graph after these events: nothing is out, and turns are left as far as they may go
pub record HasReplayed (g : Shape) (wake : WakeSet) (events : List Event) (s : WorldState) : Type 0 where
  pub graph : s.net.graph ≡ g
  pub wake_set : s.wake ≡ wake
  pub turns : s.turns ≡ EVENT_LIMIT
  pub outs : s.outs ≡ []
  pub trace : s.net.trace ≡ events
  pub last : s.last ≡ length events

-- event k, counted from 1, is the first that isn't lawful where it stands
pub record IsFirstUnlawful (g : Shape) (wake : WakeSet) (events : List Event) (k : ℕ) : Type 0 where
  pub counted : 1 ≤ k
  pub event : Event
  pub here : slice_get events (k - 1) ≡ Some event
  pub before : IsRunUnder (may_wake g wake) (network_of g) (take (k - 1) events)
  pub unlawful : is_lawful_under (may_wake g wake) (network_of g) (net_after g (take (k - 1) events)) event ≡ false

-- why events can't be done again
abbrev pub CantReplay : Shape → WakeSet → List Event → ReplayFault → Type 0
CantReplay g wake events (NotLawful k) = IsFirstUnlawful g wake events k
CantReplay g wake events (Unforeseen k) = ⊥
CantReplay g wake events Memory = Unit {0}
