-- What holds of Borůvka in step in every run of every graph, as one fact a law.
use Rattle.std.specs.Prelude.{◌≡◌, ◌≢◌, ℕ, ◌+◌, ◌≤◌, List, [], length, map}
use Rattle.std.specs.List.{Contains}
use Rattle.ghs_graph.specs.declared.key.Key.{Key}
use Rattle.ghs_graph.specs.declared.port.Port.{Port}
use Rattle.ghs_graph.specs.Graph.{Shape, IsGraph}
use Rattle.ghs_graph.specs.Links.{Joined, links, InTree}
use Rattle.ghs_graph.specs.Bound.{IsFloorLog2}
use Rattle.peer_network.specs.declared.event.Event.{Event}
use Rattle.peer_network.specs.Network.{Network, network_of, InNetwork, At, far, far_port}
use Rattle.peer_machine.specs.Net.{Net}
use Rattle.peer_machine.specs.Run.{IsAfter, IsNetOf, IsLater, IsRun}
use Rattle.peer_machine.specs.Ledger.{in_all}
use Rattle.peer_machine.specs.Protocol.{HasRules, IsBoundedBy}
use Rattle.boruvka_node.specs.declared.message.Message.{Message}
use Rattle.boruvka_node.specs.declared.message.Phase.TheVariants.{Sleeping}
use Rattle.boruvka_node.specs.State.{State, sleeper, degree}
use Rattle.boruvka_node.specs.Boruvka.{boruvka}
use Rattle.boruvka_protocol.specs.Bound.{floor_log2, bound_of}
use Rattle.boruvka_protocol.specs.Marks.{IsBranchLink, IsInsideLink, IsJoinedLink, HasHalted}

-- node v has its number, the keys of its ports, and as many ports
pub record IsNodeOf (g : Network) (v : ℕ) (n : State) : Type 0 where
  pub number : n.number ≡ v
  pub keys : n.keys ≡ map (λ (p : Port). p.key) (g.ports v)
  pub ports : degree n ≡ length (g.ports v)

-- each node keeps its number, the keys of its ports, and how many they are
abbrev pub NodesKeepPorts : Type 0
NodesKeepPorts = (g : Shape) (w : Net State Message) → IsNetOf boruvka g w → (v : ℕ) → IsNodeOf (network_of g) v (w.node v)

-- who sleeps is as at the opening
abbrev pub SleepersAreUntouched : Type 0
SleepersAreUntouched =
    (g : Shape) (w : Net State Message) → IsNetOf boruvka g w → (v : ℕ) → (w.node v).head.phase ≡ Sleeping →
    w.node v ≡ sleeper v ((network_of g).ports v)

-- and has sent nothing: at no moment of its sleep does a message of it wait, at the far end of any port
abbrev pub SleepersAreSilent : Type 0
SleepersAreSilent =
    (g : Shape) (w : Net State Message) → IsNetOf boruvka g w → (v p : ℕ) → At (network_of g) v p → (w.node v).head.phase ≡ Sleeping →
    w.queue (far (network_of g) v p) (far_port (network_of g) v p) ≡ []

-- no node falls asleep
abbrev pub NodesStayAwake : Type 0
NodesStayAwake =
    (g : Shape) (w w' : Net State Message) → IsLater boruvka g w w' → (v : ℕ) → (w.node v).head.phase ≢ Sleeping → (w'.node v).head.phase ≢ Sleeping

-- no node loses level
abbrev pub LevelsStay : Type 0
LevelsStay =
    (g : Shape) (w w' : Net State Message) → IsLater boruvka g w w' → (v : ℕ) → (w.node v).head.level ≤ (w'.node v).head.level

-- a run has at most as many events as messages sent and nodes together
abbrev pub EventsAreFew : Type 0
EventsAreFew =
    (g : Shape) → IsGraph g → (es : List Event) (w : Net State Message) → IsAfter boruvka (network_of g) es w →
    length es ≤ in_all boruvka w.sent + g.nodes

-- each lawful event has a rule
abbrev pub EventsHaveRules : Type 0
EventsHaveRules = HasRules boruvka

-- each Branch link is one of the minimum spanning forest
abbrev pub BranchLinksInTree : Type 0
BranchLinksInTree = (g : Shape) (w : Net State Message) → IsNetOf boruvka g w → (k : Key) → IsBranchLink (network_of g) w k → InTree g.keys k

-- and no Inside link is
abbrev pub InsideLinksAside : Type 0
InsideLinksAside = (g : Shape) (w : Net State Message) → IsNetOf boruvka g w → (k : Key) → IsInsideLink (network_of g) w k → InTree g.keys k → ⊥

-- the floor of log2, by which the bound counts levels, is the greatest k with 2 to the k at most n
abbrev pub FloorsAreGreatest : Type 0
FloorsAreGreatest = (n : ℕ) → 1 ≤ n → IsFloorLog2 n (floor_log2 n)

-- no run sends more messages than the bound
abbrev pub SendsWithinBound : Type 0
SendsWithinBound = IsBoundedBy boruvka bound_of

-- so no run has more events than the bound and the nodes together, whatever the order
abbrev pub RunsAreShort : Type 0
RunsAreShort = (g : Shape) → IsGraph g → (es : List Event) → IsRun boruvka (network_of g) es → length es ≤ bound_of g + g.nodes

-- in the component of v the links of the forest are Branch at both ends, and no other link there is Branch
abbrev pub IsWholeAt : Shape → Net State Message → ℕ → Type 0
IsWholeAt g w v =
    (k : Key) → Contains g.keys k → Joined (links g.keys) v k.a →
    (InTree g.keys k → IsJoinedLink (network_of g) w k) × (IsBranchLink (network_of g) w k → InTree g.keys k)

-- in the component of v no message waits
abbrev pub IsSilentAt : Shape → Net State Message → ℕ → Type 0
IsSilentAt g w v = (u p : ℕ) → At (network_of g) u p → Joined (links g.keys) v u → w.queue u p ≡ []

-- where a node has halted, its component is whole, and no message waits there
abbrev pub HaltIsEnd : Type 0
HaltIsEnd =
    (g : Shape) (w : Net State Message) → IsNetOf boruvka g w → (v : ℕ) → InNetwork (network_of g) v → HasHalted w v →
    IsWholeAt g w v × IsSilentAt g w v

-- silence is the end: where no message waits in the component of a node that is awake, one node of it has halted, and no other, and it is whole
abbrev pub SilenceIsEnd : Type 0
SilenceIsEnd =
    (g : Shape) (w : Net State Message) → IsNetOf boruvka g w → (v : ℕ) → InNetwork (network_of g) v → (w.node v).head.phase ≢ Sleeping →
    IsSilentAt g w v →
    IsWholeAt g w v ×
    ((u : ℕ) × InNetwork (network_of g) u × Joined (links g.keys) v u × HasHalted w u ×
    ((x : ℕ) → InNetwork (network_of g) x → Joined (links g.keys) v x → HasHalted w x → x ≡ u))
