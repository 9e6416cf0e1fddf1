-- The events of a network in order, and those that may be checked out.
use Rattle.std.specs.Prelude.{ℕ, ◌+◌, ◌-◌, Option, Bool, ◌&&◌, not, List, ◌∷◌, ◌++◌, length, filter}
use Rattle.std.specs.List.{list_any, find, range_with_len}
use Rattle.peer_network.specs.declared.event.Event.{Event}
use Rattle.peer_network.specs.declared.event.Event.TheVariants.{Wake}
use Rattle.peer_network.specs.Network.{Network}
use Rattle.peer_index.specs.Places.{node_events, all_events, takes}
use Rattle.ghs_core.specs.NetState.{network, event_node}
use Rattle.ghs_world.specs.Outs.{is_out}
use Rattle.ghs_world.specs.WorldState.{WorldState, may_happen}

-- the event may be checked out, turns and memory aside
abbrev pub is_ready : WorldState → Event → Bool
is_ready s e = not (is_out s.outs (event_node e)) && may_happen s e

-- all such events, in order
abbrev pub ready_events : WorldState → List Event
ready_events s = filter (is_ready s) (all_events (network s.net))

-- the events of node v in the order in which it is served: Wake, the ports from one on, and then all ports from port 0 on
abbrev pub in_turn : Network → ℕ → ℕ → List Event
in_turn g v from = Wake v ∷ takes v from (length (g.ports v) - from) ++ takes v 0 (length (g.ports v))

-- the first of them that may be checked out
unfoldable pub next_of : WorldState → ℕ → ℕ → Option Event
next_of s v from = find (is_ready s) (in_turn (network s.net) v from)

-- one of node v's events may happen
abbrev pub has_lawful : WorldState → ℕ → Bool
has_lawful s v = list_any (may_happen s) (node_events (network s.net) v)

-- one of them may be checked out: the node is at home
abbrev pub has_ready : WorldState → ℕ → Bool
has_ready s v = not (is_out s.outs v) && has_lawful s v

-- the first node from one on, else from node 1 on, one of whose events may be checked out
unfoldable pub next_node_of : WorldState → ℕ → Option ℕ
next_node_of s from = find (has_ready s) (range_with_len from (s.net.graph.nodes + 1 - from) ++ range_with_len 1 s.net.graph.nodes)
