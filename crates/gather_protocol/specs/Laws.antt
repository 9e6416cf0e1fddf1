-- What holds of Gather in every run of every graph, as one fact a law.
use Rattle.std.specs.Prelude.{◌≡◌, ℕ, ◌+◌, ◌-◌, ◌*◌, ◌==◌, ◌≤◌, Bool, true, false, ◌↔◌, List, length, map, slice_index_or}
use Rattle.std.specs.List.{All}
use Rattle.ghs_graph.specs.declared.port.Port.{Port}
use Rattle.ghs_graph.specs.Components.{HasComponents}
use Rattle.ghs_graph.specs.Graph.{Shape, IsGraph}
use Rattle.ghs_graph.specs.Links.{InTree, IsTree}
use Rattle.peer_network.specs.declared.event.Event.{Event}
use Rattle.peer_network.specs.Events.{MayWake}
use Rattle.peer_network.specs.Network.{Network, network_of, InNetwork, At, port_at}
use Rattle.peer_machine.specs.Net.{Net}
use Rattle.peer_machine.specs.Run.{IsAfter, IsNetOf, IsRun}
use Rattle.peer_machine.specs.Ledger.{in_all}
use Rattle.peer_machine.specs.Branches.{BranchesAreFound}
use Rattle.peer_machine.specs.Ends.{IsSilent, SilenceIsEnd, SilenceWakesAll}
use Rattle.peer_machine.specs.Protocol.{HasRules, IsBoundedBy, StaysAwake}
use Rattle.peer_machine.specs.Rules.{HasKinds, NeverDefers}
use Rattle.gather_node.specs.declared.message.Message.{Message}
use Rattle.gather_node.specs.Gather.{gather}
use Rattle.gather_node.specs.State.{State}
use Rattle.gather_protocol.specs.Bound.{bound_by, bound_of, wakers_in}

-- node v has its number and the keys of its ports
pub record IsNodeOf (g : Network) (v : ℕ) (n : State) : Type 0 where
  pub number : n.number ≡ v
  pub keys : n.keys ≡ map (λ (p : Port). p.key) (g.ports v)

-- each node keeps its number and the keys of its ports
abbrev pub NodesKeepPorts : Type 0
NodesKeepPorts = (g : Shape) (w : Net State Message) → IsNetOf gather g w → (v : ℕ) → IsNodeOf (network_of g) v (w.node v)

-- each lawful event has a rule
abbrev pub EventsHaveRules : Type 0
EventsHaveRules = HasRules gather

-- each event leaves its node awake
abbrev pub NodesStayAwake : Type 0
NodesStayAwake = StaysAwake gather

-- each message is of one of the kinds, and none is ever deferred
abbrev pub MessagesHaveKinds : Type 0
MessagesHaveKinds = HasKinds gather

abbrev pub NoneIsDeferred : Type 0
NoneIsDeferred = NeverDefers gather

-- where only some nodes wake by themselves, a run sends at most twice as many messages as there are links for each of them, and for each node one
-- but for one
abbrev pub SendsWithinWakers : Type 0
SendsWithinWakers =
    (g : Shape) (may : ℕ → Bool) (es : List Event) (w : Net State Message) → IsGraph g → All (MayWake may) es →
    IsAfter gather (network_of g) es w → in_all gather w.sent ≤ bound_by g (wakers_in (network_of g) may)

-- and in several pieces as many fewer as there are more of them
abbrev pub SendsWithinPieces : Type 0
SendsWithinPieces =
    (g : Shape) (pieces : ℕ) (may : ℕ → Bool) (es : List Event) (w : Net State Message) → IsGraph g → HasComponents g pieces →
    All (MayWake may) es → IsAfter gather (network_of g) es w →
    in_all gather w.sent + pieces ≤ 2 * (length g.keys * wakers_in (network_of g) may) + g.nodes

-- where one node does
abbrev pub OneSends : Type 0
OneSends =
    (g : Shape) (v : ℕ) (es : List Event) (w : Net State Message) → IsGraph g → InNetwork (network_of g) v →
    All (MayWake (λ u. u == v)) es → IsAfter gather (network_of g) es w →
    in_all gather w.sent ≤ 2 * length g.keys + (g.nodes - 1)

-- no run sends more messages than the bound
abbrev pub SendsWithinBound : Type 0
SendsWithinBound = IsBoundedBy gather bound_of

-- so no run has more events than the bound and the nodes together, whatever the order
abbrev pub RunsAreShort : Type 0
RunsAreShort = (g : Shape) → IsGraph g → (es : List Event) → IsRun gather (network_of g) es → length es ≤ bound_of g + g.nodes

-- where no message waits, each node that is awake has halted
abbrev pub SilenceHalts : Type 0
SilenceHalts =
    (g : Shape) (w : Net State Message) → IsNetOf gather g w → IsSilent (network_of g) w → (v : ℕ) → InNetwork (network_of g) v →
    gather.is_asleep (w.node v) ≡ false → (w.node v).head.halted ≡ true

-- and nobody sleeps in its component
abbrev pub SilenceWakes : Type 0
SilenceWakes = SilenceWakesAll gather

-- the port is marked a Branch
abbrev pub marks_branch : State → ℕ → Bool
marks_branch n p = slice_index_or n.branches p false

-- at every moment: who has halted has marked those of its links that are of the minimum spanning forest, and no others
abbrev pub HaltedMarkTrees : Type 0
HaltedMarkTrees =
    (g : Shape) (w : Net State Message) → IsNetOf gather g w → (v p : ℕ) → At (network_of g) v p → (w.node v).head.halted ≡ true →
    (marks_branch (w.node v) p ≡ true) ↔ InTree g.keys (port_at (network_of g) v p).key

-- and who has not has marked none
abbrev pub OthersMarkNone : Type 0
OthersMarkNone =
    (g : Shape) (w : Net State Message) → IsNetOf gather g w → (v p : ℕ) → (w.node v).head.halted ≡ false → marks_branch (w.node v) p ≡ false

-- a run has ended where no message waits and each node has halted
abbrev pub HasEnded : Shape → Net State Message → Type 0
HasEnded g w = IsSilent (network_of g) w × ((v : ℕ) → InNetwork (network_of g) v → (w.node v).head.halted ≡ true)

-- which is so just in silence with all awake
abbrev pub SilenceEnds : Type 0
SilenceEnds = SilenceIsEnd gather HasEnded

-- then the Branch links are the minimum spanning forest
abbrev pub BranchesAreTree : Type 0
BranchesAreTree = BranchesAreFound gather HasEnded marks_branch (λ g ks. IsTree g.keys ks)

-- where one node wakes by itself, just so many messages were sent then as may be
abbrev pub OneSendsJust : Type 0
OneSendsJust =
    (g : Shape) (v : ℕ) (es : List Event) (w : Net State Message) → IsGraph g → InNetwork (network_of g) v →
    All (MayWake (λ u. u == v)) es → IsAfter gather (network_of g) es w → HasEnded g w →
    in_all gather w.sent ≡ 2 * length g.keys + (g.nodes - 1)
