-- Why a stored run has no page.
use Rattle.std.specs.Prelude.{ℕ, List}
use Rattle.ghs_graph.specs.Graph.{Shape}
use Rattle.peer_network.specs.declared.event.Event.{Event}
use Rattle.peer_network.specs.Network.{network_of}
use Rattle.ghs_protocol.specs.Run.{IsRunUnder}
use Rattle.ghs_sched.specs.Replays.{IsFirstUnlawful}
use Rattle.peer_network.specs.declared.wake_set.WakeSet.{WakeSet}
use Rattle.peer_network.specs.Wakes.{may_wake}
use Rattle.peer_page.specs.Limits.{IsTooLarge}
use Rattle.peer_page.specs.declared.fault.StoredFault.{StoredFault}
use Rattle.peer_page.specs.declared.fault.StoredFault.TheVariants.{Memory, NotLawful, TooLarge}

-- the first event that can't happen where it stands; a run that a page can't take; out of memory may come anywhere
abbrev pub HasNoPage : Shape → WakeSet → List Event → ℕ → StoredFault → Type 0
HasNoPage g wake es to (NotLawful k) = IsFirstUnlawful g wake es k
HasNoPage g wake es to TooLarge = IsRunUnder (may_wake g wake) (network_of g) es × IsTooLarge g es to
HasNoPage g wake es to Memory = Unit {0}
