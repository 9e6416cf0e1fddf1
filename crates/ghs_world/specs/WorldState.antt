-- What a world is seen as, and what its calls do.
use Rattle.std.specs.Prelude.{◌≡◌, ℕ, ◌+◌, ◌≤◌, ◌^◌, Bool, ◌&&◌, not, nat_lt, Option, Some, None, [], ◌∷◌, ◌++◌, length, if◌then◌else◌}
use Rattle.std.specs.List.{All as Each}
use Rattle.peer_network.specs.declared.event.Event.{Event}
use Rattle.ghs_protocol.specs.Net.{Net, is_lawful_under}
use Rattle.peer_network.specs.Events.{MayWake}
use Rattle.ghs_core.specs.NetState.{NetState, network, net_of, event_node, work_at}
use Rattle.peer_network.specs.declared.wake_set.WakeSet.{WakeSet}
use Rattle.ghs_world.specs.declared.fault.OutFault.{OutFault}
use Rattle.ghs_world.specs.declared.fault.OutFault.TheVariants as outs
use Rattle.ghs_world.specs.declared.fault.BackFault.{BackFault}
use Rattle.ghs_world.specs.declared.fault.BackFault.TheVariants as backs
use Rattle.peer_network.specs.Wakes.{may_wake}
use Rattle.peer_index.specs.Places.{has_place}
use Rattle.ghs_world.specs.Tickets.{TicketState}
use Rattle.ghs_world.specs.Outs.{Outs, event_out, is_out, AllOut}

-- the net at home, in which all that is out stands where it was; which nodes wake by themselves; how many commits there may be;
-- the events that are out, under the numbers of their tickets; and the last number that was given
pub record WorldState : Type 0 where
  pub net : NetState
  pub wake : WakeSet
  pub turns : ℕ
  pub outs : Outs
  pub last : ℕ

-- the home view
abbrev pub home : WorldState → Net
home s = net_of s.net

-- which nodes wake by themselves here
abbrev pub wakers : WorldState → ℕ → Bool
wakers s = may_wake s.net.graph s.wake

-- the event is lawful in the home view, under the wake set
abbrev pub may_happen : WorldState → Event → Bool
may_happen s e = is_lawful_under (wakers s) (network s.net) (home s) e

-- there are turns for one ticket more, and a number
abbrev pub has_turn : WorldState → Bool
has_turn s = nat_lt (length s.net.trace + length s.outs) s.turns && nat_lt s.last 18446744073709551615

-- why an event isn't checked out, memory aside: the first that holds
abbrev pub refusal : WorldState → Event → Option OutFault
refusal s e =
    if not (has_place (network s.net) e) then Some outs.NoSuch
    else (if is_out s.outs (event_node e) then Some outs.Busy
    else (if not (may_happen s e) then Some outs.Nothing
    else (if not (has_turn s) then Some outs.TurnLimit else None)))

-- the faults of a check-out: memory comes after all others
abbrev pub Refuses : WorldState → Event → OutFault → Type 0
Refuses s e outs.Memory = refusal s e ≡ None
Refuses s e f = refusal s e ≡ Some f

-- the ticket of an event that goes out now
abbrev pub ticket_of : WorldState → Event → TicketState
ticket_of s e = record { number = s.last + 1; event = e; node = (home s).node (event_node e); work = work_at (home s) e }

-- the world once that ticket is out
abbrev pub gone_out : WorldState → Event → WorldState
gone_out s e = record s { outs = s.outs ++ (s.last + 1, e) ∷ []; last = s.last + 1 }

-- no ticket of this number is out here
abbrev pub IsUnknown : WorldState → ℕ → Type 0
IsUnknown s n = event_out s.outs n ≡ None

-- the ticket is the one of its number that is out: it has its event, and the node and the work of the home view
pub record IsOut (s : WorldState) (t : TicketState) : Type 0 where
  pub event : event_out s.outs t.number ≡ Some t.event
  pub node : t.node ≡ (home s).node (event_node t.event)
  pub work : t.work ≡ work_at (home s) t.event

-- why a ticket isn't taken back: the first that holds
abbrev pub RefusesTicket : WorldState → TicketState → BackFault → Type 0
RefusesTicket s t backs.UnknownTicket = IsUnknown s t.number
RefusesTicket s t backs.Altered = (IsUnknown s t.number → ⊥) × (IsOut s t → ⊥)

-- what every world keeps
pub record IsWorld (s : WorldState) : Type 0 where
  pub wakes : Each (MayWake (wakers s)) s.net.trace
  pub lawful : AllOut (may_happen s) s.outs
  pub turns : length s.net.trace + length s.outs ≤ s.turns
  pub few : s.turns ≤ 2 ^ 40
