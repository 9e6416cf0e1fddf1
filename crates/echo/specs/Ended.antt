-- The end of a run, and the links that it has found.
use Rattle.std.specs.Prelude.{◌≡◌, ◌↔◌, ℕ, ◌*◌, ◌≤◌, Bool, true, is_none, ◌&&◌, List, length, if◌then◌else◌}
use Rattle.std.specs.List.{Contains}
use Rattle.ghs_graph.specs.declared.key.Key.{Key}
use Rattle.ghs_graph.specs.Graph.{Shape, IsGraph}
use Rattle.ghs_graph.specs.Laws.{links_but}
use Rattle.ghs_graph.specs.Links.{AreLinksOf, IsRising, JoinAll, Joined, links}
use Rattle.peer_network.specs.declared.event.Event.{Event}
use Rattle.peer_network.specs.declared.event.Event.TheVariants as events
use Rattle.peer_network.specs.Network.{network_of, InNetwork, At}
use Rattle.peer_network.specs.Sums.{sum_over_nodes}
use Rattle.peer_machine.specs.Net.{Net}
use Rattle.peer_machine.specs.Run.{IsAfter, IsNetOf}
use Rattle.peer_machine.specs.Ledger.{in_all}
use Rattle.peer_machine.specs.Branches.{AreBranches}
use Rattle.echo.specs.declared.node.Message.{Message}
use Rattle.echo.specs.declared.node.Node.{Node}
use Rattle.echo.specs.Echo.{echo, is_left_out}

-- The run has ended: each node takes part, and awaits no answer. (One initiator may have halted before, while a message waits, where two woke.)
abbrev pub HasEnded : Shape → Net Node Message → Type 0
HasEnded g w = (v : ℕ) → InNetwork (network_of g) v → ((w.node v).head.awake ≡ true) × ((w.node v).head.awaits ≡ 0)

-- the port is the node's parent
abbrev pub marks_parent : Node → ℕ → Bool
marks_parent n p = is_left_out n.head.parent p

-- links of the graph in key order, of which none closes a cycle: its ends aren't joined by the others
pub record IsForest (g : Shape) (ks : List Key) : Type 0 where
  pub rising : IsRising ks
  pub of_graph : AreLinksOf g.keys ks
  pub no_cycle : (k : Key) → Contains ks k → Joined (links_but ks k) k.a k.b → ⊥

-- an initiator: it takes part, and has no parent
abbrev pub is_initiator : Node → Bool
is_initiator n = n.head.awake && is_none n.head.parent

abbrev pub IsInitiator : Shape → Net Node Message → ℕ → Type 0
IsInitiator g w v = InNetwork (network_of g) v × (is_initiator (w.node v) ≡ true)

-- in every run the initiators are the nodes that have woken by themselves
abbrev pub InitiatorsWoke : Type 0
InitiatorsWoke =
    (g : Shape) (es : List Event) (w : Net Node Message) → IsGraph g → IsAfter echo (network_of g) es w →
    (v : ℕ) → InNetwork (network_of g) v → (is_initiator (w.node v) ≡ true) ↔ Contains es (events.Wake v)

-- what holds at the end of a run, where ks are the branches
abbrev pub AtEnds : (Shape → Net Node Message → List Key → Type 0) → Type 0
AtEnds holds =
    (g : Shape) (w : Net Node Message) (ks : List Key) → IsNetOf echo g w → HasEnded g w → AreBranches marks_parent (network_of g) w ks → holds g w ks

-- the node is joined by these links with exactly one initiator
pub record HasOneInitiator (g : Shape) (w : Net Node Message) (ks : List Key) (v : ℕ) : Type 0 where
  pub initiator : ℕ
  pub is : IsInitiator g w initiator
  pub joined : Joined (links ks) v initiator
  pub only : (u : ℕ) → IsInitiator g w u → Joined (links ks) v u → u ≡ initiator

-- at the end each node is joined by the branches with exactly one initiator
abbrev pub EachHasOneInitiator : Type 0
EachHasOneInitiator = AtEnds (λ g w ks. (v : ℕ) → InNetwork (network_of g) v → HasOneInitiator g w ks v)

-- and where no two initiators are in one component, the branches join all that the graph joins
abbrev pub OneSpans : Type 0
OneSpans = AtEnds (λ g w ks.
    ((u v : ℕ) → IsInitiator g w u → IsInitiator g w v → Joined (links g.keys) u v → u ≡ v) → JoinAll g.keys ks)

-- at the end two messages were sent for each link, whoever woke
abbrev pub TwoALink : Type 0
TwoALink = (g : Shape) (w : Net Node Message) → IsNetOf echo g w → HasEnded g w → in_all echo w.sent ≡ 2 * length g.keys

-- how many nodes are no initiators
abbrev pub others_in : Shape → Net Node Message → ℕ
others_in g w = sum_over_nodes (network_of g) (λ v. if is_none (w.node v).head.parent then 0 else 1)

-- and of them one is an Echo for each node that is no initiator
abbrev pub EchoesOfOthers : Type 0
EchoesOfOthers = (g : Shape) (w : Net Node Message) → IsNetOf echo g w → HasEnded g w → w.sent 1 ≡ others_in g w

-- in every run at most one message waits at a port
abbrev pub OneWaits : Type 0
OneWaits = (g : Shape) (w : Net Node Message) → IsNetOf echo g w → (v p : ℕ) → At (network_of g) v p → length (w.queue v p) ≤ 1
