-- What holds however the events of a run interleave, as one fact a law.
use Rattle.std.specs.Prelude.{◌≡◌, ◌≢◌, ◌↔◌, ℕ, ◌+◌, ◌*◌, ◌≤◌, ◌^◌, true, List, ◌∷◌, length, IsSome, Some}
use Rattle.std.specs.List.{All, AllPairs, Contains}
use Rattle.ghs_graph.specs.Bound.{IsBound, IsFloorLog2}
use Rattle.ghs_graph.specs.Graph.{Shape, IsGraph}
use Rattle.ghs_node.specs.declared.mark.Mark.TheVariants.{Rejected}
use Rattle.ghs_node.specs.NodeState.{mark_at}
use Rattle.ghs_node.specs.declared.message.Message.{Message}
use Rattle.ghs_node.specs.declared.message.Phase.TheVariants.{Sleeping}
use Rattle.ghs_node.specs.declared.work.Work.{Work}
use Rattle.ghs_node.specs.declared.work.Work.TheVariants.{Wake, Deliver}
use Rattle.ghs_node.specs.Reaction.{reaction}
use Rattle.peer_network.specs.declared.event.Event.{Event}
use Rattle.peer_network.specs.Network.{Network, network_of, At, far}
use Rattle.ghs_protocol.specs.Net.{Net, opening, is_lawful, effect}
use Rattle.ghs_graph.specs.declared.key.Key.{Key}
use Rattle.ghs_graph.specs.Links.{Joined, links, InTree}
use Rattle.ghs_protocol.specs.Marks.{InOneFragment, IsBranchLink, IsRejectedLink, IsJoinedLink, HasHalted, HasEnded}
use Rattle.ghs_protocol.specs.Ledger.{in_all}
use Rattle.ghs_protocol.specs.Payments.{LevelPays, AllIsPaid, added_up, port_pays}
use Rattle.ghs_protocol.specs.Run.{IsAfter}
use Rattle.ghs_protocol.specs.Laws.{IsNetOf, IsLater}

-- at least n numbers have P: they stand in a list, each once
pub record HaveAtLeast (n : ℕ) (P : ℕ → Type 0) : Type 0 where
  pub list : List ℕ
  pub once : AllPairs (λ x y. x ≢ y) list
  pub each : All P list
  pub many : n ≤ length list

-- the fragment of a node of level L has at least 2^L nodes
abbrev pub FragmentsAreLarge : Type 0
FragmentsAreLarge =
    (g : Shape) (w : Net) → IsNetOf g w →
    (v : ℕ) → 1 ≤ v → v ≤ g.nodes →
    HaveAtLeast (2 ^ (w.node v).head.level) (λ u. (1 ≤ u) × (u ≤ g.nodes) × InOneFragment (network_of g) w v u)

-- the ends of a Rejected link lie in one fragment
abbrev pub RejectedLinksInside : Type 0
RejectedLinksInside =
    (g : Shape) (w : Net) → IsNetOf g w →
    (v p : ℕ) → At (network_of g) v p →
    mark_at (w.node v) p ≡ Rejected →
    InOneFragment (network_of g) w v (far (network_of g) v p)

-- a Rejected mark is never changed
abbrev pub RejectedMarksStay : Type 0
RejectedMarksStay =
    (g : Shape) (w w' : Net) → IsLater g w w' →
    (v p : ℕ) → At (network_of g) v p →
    mark_at (w.node v) p ≡ Rejected →
    mark_at (w'.node v) p ≡ Rejected

-- each lawful event has a rule
abbrev pub EventsHaveRules : Type 0
EventsHaveRules = (g : Shape) (w : Net) → IsNetOf g w → (e : Event) → is_lawful (network_of g) w e ≡ true → IsSome (effect (network_of g) w e)

-- what an event gives a node to do
pub data Asks (g : Network) (w : Net) : ℕ → Work → Type 0 where
  To_wake : (v : ℕ) → 1 ≤ v → v ≤ g.count → (w.node v).head.phase ≡ Sleeping → Asks g w v Wake
  To_take : (v p : ℕ) (m : Message) (ms : List Message) → At g v p → w.queue v p ≡ m ∷ ms → Asks g w v (Deliver p m)

-- a node's reaction to what a lawful event gives it to do is never missing
abbrev pub WorkHasReaction : Type 0
WorkHasReaction = (g : Shape) (w : Net) → IsNetOf g w → (v : ℕ) (k : Work) → Asks (network_of g) w v k → IsSome (reaction (w.node v) k)

-- each Branch link is one of the minimum spanning forest
abbrev pub BranchLinksInTree : Type 0
BranchLinksInTree = (g : Shape) (w : Net) → IsNetOf g w → (k : Key) → IsBranchLink (network_of g) w k → InTree g.keys k

-- and no Rejected link is
abbrev pub RejectedLinksAside : Type 0
RejectedLinksAside = (g : Shape) (w : Net) → IsNetOf g w → (k : Key) → IsRejectedLink (network_of g) w k → InTree g.keys k → ⊥

-- where a node has halted, the links of the tree in its component are Branch at both ends, and no other link there is Branch
abbrev pub HaltIsExact : Type 0
HaltIsExact =
    (g : Shape) (w : Net) → IsNetOf g w →
    (v : ℕ) → 1 ≤ v → v ≤ g.nodes →
    HasHalted w v →
    (k : Key) → Contains g.keys k →
    Joined (links g.keys) v k.a →
    (InTree g.keys k → IsJoinedLink (network_of g) w k) × (IsBranchLink (network_of g) w k → InTree g.keys k × IsJoinedLink (network_of g) w k)

-- where a run has ended, the Branch links are those of the minimum spanning forest, and they are Branch at both ends
abbrev pub EndIsTree : Type 0
EndIsTree =
    (g : Shape) (w : Net) → IsNetOf g w → HasEnded g w → (k : Key) →
    (IsBranchLink (network_of g) w k ↔ InTree g.keys k) × (InTree g.keys k → IsJoinedLink (network_of g) w k)

-- no run sends more messages than the bound
abbrev pub SendsWithinBound : Type 0
SendsWithinBound = (g : Shape) (w : Net) → IsNetOf g w → (b : ℕ) → IsBound g.nodes (length g.keys) b → in_all w.sent ≤ b

-- where a graph has more than one node, it is less by twice the nodes
abbrev pub SendsWithinSharpBound : Type 0
SendsWithinSharpBound =
    (g : Shape) (w : Net) → IsNetOf g w → (b : ℕ) → 2 ≤ g.nodes → IsBound g.nodes (length g.keys) b → in_all w.sent + 2 * g.nodes ≤ b

-- each level of a node pays for one message of each sort at most, up to the highest level, which is the floor of log2 of the nodes
abbrev pub LevelsPayOnce : Type 0
LevelsPayOnce =
    (g : Shape) (es : List Event) (w : Net) → IsGraph g → IsAfter (network_of g) es w →
    (k : ℕ) × IsFloorLog2 g.nodes k × ((v : ℕ) → 1 ≤ v → v ≤ g.nodes → (l : ℕ) → LevelPays (network_of g) k es w v l)

-- all that was sent is what levels and ports have paid, what waits, and the Tests that have no end yet
abbrev pub SendsArePaid : Type 0
SendsArePaid =
    (g : Shape) (es : List Event) (w : Net) → IsGraph g → IsAfter (network_of g) es w →
    (k : ℕ) × IsFloorLog2 g.nodes k × AllIsPaid (network_of g) k es w

-- each direction of a link pays once at most, and not while it is being tested
abbrev pub PortsPayOnce : Type 0
PortsPayOnce =
    (g : Shape) (es : List Event) (w : Net) → IsGraph g → IsAfter (network_of g) es w → (v p : ℕ) → At (network_of g) v p →
    (added_up (port_pays v p) (network_of g) es (opening (network_of g)) ≤ 1) ×
    ((w.node v).head.probe ≡ Some p → added_up (port_pays v p) (network_of g) es (opening (network_of g)) ≡ 0)
