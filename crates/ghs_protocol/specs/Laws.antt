-- What holds in every run of every graph, as one fact a law.
use Rattle.std.specs.Prelude.{◌≡◌, ◌≢◌, ℕ, ◌≤◌, ◌↔◌, ◌+◌, ◌*◌, List, [], ◌++◌, length, Some}
use Rattle.std.specs.List.{All}
use Rattle.ghs_graph.specs.Graph.{Shape, IsGraph}
use Rattle.ghs_graph.specs.Links.{Joined}
use Rattle.ghs_node.specs.declared.mark.Mark.TheVariants.{Basic, Branch}
use Rattle.ghs_node.specs.declared.message.Phase.TheVariants.{Sleeping}
use Rattle.ghs_node.specs.NodeState.{mark_at}
use Rattle.ghs_node.specs.Laws.{HasLevel}
use Rattle.peer_network.specs.declared.event.Event.{Event}
use Rattle.peer_network.specs.Network.{network_of, At}
use Rattle.ghs_protocol.specs.Net.{Net, opening, happens}
use Rattle.ghs_protocol.specs.Run.{IsAfter}
use Rattle.ghs_protocol.specs.Marks.{IsJoinedLink, InOneFragment, HasHalted}
use Rattle.ghs_protocol.specs.Ledger.{IsBalanced, in_all, IsBalancedInAll}
use Rattle.peer_network.specs.Events.{takes_in}
use Rattle.ghs_protocol.specs.Nodes.{IsNodeOf}
use Rattle.ghs_protocol.specs.Steps.{Happens, Steps}
use Rattle.ghs_protocol.specs.Connects.{ConnectsFit}
use Rattle.ghs_protocol.specs.Halting.{Halts}

-- w is the net after a run of the graph
pub record IsNetOf (g : Shape) (w : Net) : Type 0 where
  pub graph : IsGraph g
  pub events : List Event
  pub run : IsAfter (network_of g) events w

-- w is the net after a run of the graph, and w' the net when further events have happened
pub record IsLater (g : Shape) (w w' : Net) : Type 0 where
  pub graph : IsGraph g
  pub events : List Event
  pub further : List Event
  pub run : IsAfter (network_of g) events w
  pub later : IsAfter (network_of g) (events ++ further) w'

-- a Branch mark is never changed
abbrev pub BranchMarksStay : Type 0
BranchMarksStay = (g : Shape) (w w' : Net) → IsLater g w w' → (v p : ℕ) → mark_at (w.node v) p ≡ Branch → mark_at (w'.node v) p ≡ Branch

-- a mark that isn't Basic never becomes Basic
abbrev pub MarkedPortsStay : Type 0
MarkedPortsStay = (g : Shape) (w w' : Net) → IsLater g w w' → (v p : ℕ) → mark_at (w.node v) p ≢ Basic → mark_at (w'.node v) p ≢ Basic

-- no node falls asleep
abbrev pub NodesStayAwake : Type 0
NodesStayAwake = (g : Shape) (w w' : Net) → IsLater g w w' → (v : ℕ) → (w.node v).head.phase ≢ Sleeping → (w'.node v).head.phase ≢ Sleeping

-- no node loses level
abbrev pub LevelsStay : Type 0
LevelsStay = (g : Shape) (w w' : Net) → IsLater g w w' → (v : ℕ) → (w.node v).head.level ≤ (w'.node v).head.level

-- a node that has halted stays so
abbrev pub HaltsStay : Type 0
HaltsStay = (g : Shape) (w w' : Net) → IsLater g w w' → (v : ℕ) → HasHalted w v → HasHalted w' v

-- a node has halted exactly where one of its reactions has halted it
abbrev pub HaltedByReaction : Type 0
HaltedByReaction =
    (g : Shape) → IsGraph g → (es : List Event) (w : Net) → IsAfter (network_of g) es w → (v : ℕ) →
    (HasHalted w v ↔ Halts (network_of g) v (opening (network_of g)) es)

-- each node keeps its number, the keys of its ports, and what every node keeps
abbrev pub NodesAreNodes : Type 0
NodesAreNodes = (g : Shape) (w : Net) → IsNetOf g w → (v : ℕ) → IsNodeOf (network_of g) v (w.node v)

-- the levels in the messages that wait are levels
abbrev pub MessagesHaveLevels : Type 0
MessagesHaveLevels = (g : Shape) (w : Net) → IsNetOf g w → (v p : ℕ) → All HasLevel (w.queue v p)

-- nothing waits where no port is
abbrev pub NothingElsewhere : Type 0
NothingElsewhere = (g : Shape) (w : Net) → IsNetOf g w → (v p : ℕ) → (At (network_of g) v p → ⊥) → w.queue v p ≡ []

-- of each kind, what was sent was consumed or waits
abbrev pub KindsBalance : Type 0
KindsBalance = (g : Shape) (w : Net) → IsNetOf g w → IsBalanced (network_of g) w

-- the same over all kinds
abbrev pub LedgerBalances : Type 0
LedgerBalances = (g : Shape) (w : Net) → IsNetOf g w → IsBalancedInAll (network_of g) w

-- a port sends no Connect before it is Branch, and one Connect of a Branch port waits while the far port is Basic, never more
abbrev pub ConnectsAreOne : Type 0
ConnectsAreOne = (g : Shape) (w : Net) → IsNetOf g w → (v p : ℕ) → At (network_of g) v p → ConnectsFit (network_of g) w v p

-- a message that is taken is counted once, as consumed or as requeued; a wake is not counted
abbrev pub TakesAreCounted : Type 0
TakesAreCounted = (g : Shape) → IsGraph g → (es : List Event) (w : Net) → IsAfter (network_of g) es w → in_all w.consumed + w.requeued ≡ takes_in es

-- what was sent is at most the events times 8,388,609, one more than a node may have ports
abbrev pub SendsAreBounded : Type 0
SendsAreBounded = (g : Shape) → IsGraph g → (es : List Event) (w : Net) → IsAfter (network_of g) es w → in_all w.sent ≤ length es * 8388609

-- the machine's step, as a relation
abbrev pub EventsHappenSo : Type 0
EventsHappenSo = (g : Shape) (w w' : Net) (e : Event) → ((happens (network_of g) w e ≡ Some w') ↔ Happens (network_of g) w e w')

-- a message that comes to a sleeping node finds it as if it had woken by itself just before
abbrev pub SleepersWakeFirst : Type 0
SleepersWakeFirst = (g : Shape) (w w' : Net) (e : Event) → IsNetOf g w → Happens (network_of g) w e w' → Steps (network_of g) w w'

-- a fragment is what joined links join
abbrev pub FragmentsAreJoined : Type 0
FragmentsAreJoined = (g : Shape) → IsGraph g → (w : Net) (v u : ℕ) → (InOneFragment (network_of g) w v u ↔ Joined (IsJoinedLink (network_of g) w) v u)
