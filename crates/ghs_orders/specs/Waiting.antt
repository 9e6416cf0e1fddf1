-- The events that a schedule picks from which prefers what waits.
use Rattle.std.specs.Prelude.{ℕ, Bool, List, filter}
use Rattle.peer_network.specs.declared.event.Event.{Event}
use Rattle.peer_network.specs.Network.{Network}
use Rattle.ghs_protocol.specs.Net.{Net, is_lawful_under}
use Rattle.ghs_core.specs.NetState.{network}
use Rattle.peer_index.specs.Places.{all_events}
use Rattle.ghs_world.specs.WorldState.{WorldState, home, wakers}
use Rattle.ghs_patient.specs.Patience.{or_else, puts_back}

-- the events that only put their message back; where there is none, all that are lawful under the wake set
abbrev pub waiting_events : (ℕ → Bool) → Network → Net → List Event
waiting_events may g w = or_else (filter (puts_back w) (all_events g)) (filter (is_lawful_under may g w) (all_events g))

abbrev pub waiting_in : WorldState → List Event
waiting_in s = waiting_events (wakers s) (network s.net) (home s)
