-- The events of a round. Each message takes one unit of time, and computing none: so one that ends a chain of r messages arrives in round r, and is
-- due from then on. In a run by rounds that is one more than the round in which it was sent.
use Rattle.std.specs.Prelude.{ℕ, Bool, true, false, ◌&&◌, nat_le, Option, Some, None, List, filter}
use Rattle.std.specs.List.{slice_get}
use Rattle.ghs_graph.specs.Graph.{Shape}
use Rattle.peer_network.specs.declared.event.Event.{Event}
use Rattle.peer_network.specs.declared.event.Event.TheVariants.{Wake, Take}
use Rattle.peer_network.specs.Network.{Network, network_of}
use Rattle.ghs_protocol.specs.Net.{Net}
use Rattle.ghs_protocol.specs.Run.{net_after}
use Rattle.peer_index.specs.Places.{all_events}
use Rattle.peer_chains.specs.Chains.{Chains}
use Rattle.ghs_following.specs.Chains.{chains_of}
use Rattle.ghs_patient.specs.Patience.{moves_on, or_else, puts_back}

-- there is a message, and the chain that it ends has r messages at most: by round r it has arrived
abbrev pub is_by : ℕ → Option ℕ → Bool
is_by r None = false
is_by r (Some t) = nat_le t r

-- the event takes no message, or one that has arrived by round r
abbrev pub is_due : Chains → ℕ → Event → Bool
is_due c r (Wake v) = true
is_due c r (Take v p) = is_by r (slice_get (c.queue v p) 0)

-- behind the event's message stands one that has arrived by round r
abbrev pub has_due_second : Chains → ℕ → Event → Bool
has_due_second c r (Wake v) = false
has_due_second c r (Take v p) = is_by r (slice_get (c.queue v p) 1)

-- the event is lawful under the wake set, moves the run on, and is due
abbrev pub moves_due : (ℕ → Bool) → Network → Net → Chains → ℕ → Event → Bool
moves_due may g w c r e = moves_on may g w e && is_due c r e

-- the event only puts its message back, before one that is due
abbrev pub hides_due : Net → Chains → ℕ → Event → Bool
hides_due w c r e = puts_back w e && has_due_second c r e

-- The events of round r: those that are due and move the run on; where there is none, those that put a message back before one that is due, which
-- moves on then. So the round is over when each message that has arrived by it was consumed, or waits, or stands behind one that hasn't arrived.
abbrev pub round_events : (ℕ → Bool) → Network → Net → Chains → ℕ → List Event
round_events may g w c r = or_else (filter (moves_due may g w c r) (all_events g)) (filter (hides_due w c r) (all_events g))

-- the same, after the events of a run
abbrev pub events_in : (ℕ → Bool) → Shape → List Event → ℕ → List Event
events_in may g es r = round_events may (network_of g) (net_after g es) (chains_of (network_of g) es) r
