-- The core of a component: where nodes halt, and that it is the graph's and not the run's.
use Rattle.std.specs.Prelude.{◌≡◌, ◌≢◌, ◌↔◌, ℕ, ◌≤◌, Option, Some, None, List, [], length}
use Rattle.ghs_graph.specs.declared.key.Key.{Key}
use Rattle.ghs_graph.specs.Graph.{Shape}
use Rattle.ghs_graph.specs.Links.{Joined, links, InTree}
use Rattle.ghs_node.specs.declared.mark.Mark.TheVariants.{Branch}
use Rattle.ghs_node.specs.declared.message.Phase.TheVariants.{Sleeping, Found}
use Rattle.ghs_node.specs.NodeState.{mark_at}
use Rattle.peer_network.specs.Network.{Network, network_of, At, port_at}
use Rattle.ghs_protocol.specs.Net.{Net}
use Rattle.ghs_protocol.specs.Marks.{IsJoined, HasHalted, HasEnded}
use Rattle.ghs_protocol.specs.Laws.{IsNetOf}
use Rattle.ghs_protocol.specs.Merging.{Fragments, singles, one_connect, Merging, IsWhole, MergesAll}

-- the node's name is the key of a link of its own that is Branch at both ends; or it has no link, no name, and level 0
pub data IsCoreEnd (g : Network) (w : Net) (v : ℕ) : Type 0 where
  Ends_core : (p : ℕ) → At g v p → IsJoined g w v p → (w.node v).head.name ≡ Some (port_at g v p).key → IsCoreEnd g w v
  By_itself : ◌≡◌ {A = ℕ} (length (g.ports v)) 0 → (w.node v).head.name ≡ None → ◌≡◌ {A = ℕ} (w.node v).head.level 0 → IsCoreEnd g w v

-- who has halted is an end of the core
abbrev pub HaltedAreCoreEnds : Type 0
HaltedAreCoreEnds = (g : Shape) (w : Net) → IsNetOf g w → (v : ℕ) → 1 ≤ v → v ≤ g.nodes → HasHalted w v → IsCoreEnd (network_of g) w v

-- merging leads from single nodes to a fragment of v that no link leaves, of this level and core
pub record MergesTo (g : Shape) (v l : ℕ) (c : Option Key) : Type 0 where
  pub links : List Key
  pub to : Fragments
  pub connects : ℕ
  pub way : Merging g.keys one_connect singles links connects to
  pub whole : IsWhole g.keys to v
  pub level : to.level v ≡ l
  pub core : to.core v ≡ c

-- level and name of a node that has halted are those to which merging leads, in some order and then in each
abbrev pub CoreIsOfGraph : Type 0
CoreIsOfGraph =
    (g : Shape) (w : Net) → IsNetOf g w → (v : ℕ) → 1 ≤ v → v ≤ g.nodes → HasHalted w v →
    MergesTo g v (w.node v).head.level (w.node v).head.name ×
    ((l : ℕ) (c : Option Key) → MergesTo g v l c → (l ≡ (w.node v).head.level) × (c ≡ (w.node v).head.name))

-- whatever the orders of events and whoever wakes: in two runs nodes of one component that have halted have one level and one name
abbrev pub OneCore : Type 0
OneCore =
    (g : Shape) (w w' : Net) → IsNetOf g w → IsNetOf g w' →
    (v u : ℕ) → 1 ≤ v → v ≤ g.nodes → Joined (links g.keys) v u →
    HasHalted w v → HasHalted w' u →
    ((w.node v).head.level ≡ (w'.node u).head.level) × ((w.node v).head.name ≡ (w'.node u).head.name)

-- nothing waits, and node u lies in a component of which a node has woken
pub record IsQuietAt (g : Shape) (w : Net) (u : ℕ) : Type 0 where
  pub net : IsNetOf g w
  pub silent : (v p : ℕ) → At (network_of g) v p → w.queue v p ≡ []
  pub woken : ℕ
  pub some : 1 ≤ woken
  pub node : woken ≤ g.nodes
  pub awake : (w.node woken).head.phase ≢ Sleeping
  pub way : Joined (links g.keys) woken u

-- then its level and name are those to which merging leads
abbrev pub QuietNames : Type 0
QuietNames = (g : Shape) (w : Net) (u : ℕ) → IsQuietAt g w u → MergesTo g u (w.node u).head.level (w.node u).head.name

-- it has found what it searched for, and waits for nothing
abbrev pub QuietNodes : Type 0
QuietNodes = (g : Shape) (w : Net) (u : ℕ) → IsQuietAt g w u →
    ((w.node u).head.phase ≡ Found) × ((w.node u).head.probe ≡ None) × ◌≡◌ {A = ℕ} (w.node u).head.find_count 0

-- its Branch ports are those of links of the minimum spanning forest
abbrev pub QuietBranches : Type 0
QuietBranches = (g : Shape) (w : Net) (u : ℕ) → IsQuietAt g w u → (p : ℕ) → At (network_of g) u p →
    (mark_at (w.node u) p ≡ Branch ↔ InTree g.keys (port_at (network_of g) u p).key)

-- and it has halted exactly where it is an end of the core
abbrev pub QuietHalts : Type 0
QuietHalts = (g : Shape) (w : Net) (u : ℕ) → IsQuietAt g w u → (HasHalted w u ↔ IsCoreEnd (network_of g) w u)

-- whatever the orders of events and whoever wakes: two nets in which nothing waits are the same in each component that has woken in both
abbrev pub OneEnd : Type 0
OneEnd = (g : Shape) (w w' : Net) (u : ℕ) → IsQuietAt g w u → IsQuietAt g w' u → w.node u ≡ w'.node u

-- no node of a component has a higher level than one of it that has halted
abbrev pub HaltedAreHighest : Type 0
HaltedAreHighest =
    (g : Shape) (w : Net) → IsNetOf g w → (v u : ℕ) → 1 ≤ v → v ≤ g.nodes → HasHalted w v → Joined (links g.keys) v u →
    (w.node u).head.level ≤ (w.node v).head.level

-- once the run has ended, as many Connects have been sent as merging the graph takes
abbrev pub ConnectsOfGraph : Type 0
ConnectsOfGraph = (g : Shape) (w : Net) → IsNetOf g w → HasEnded g w → MergesAll g.keys one_connect (w.sent 0)

-- so, whatever the orders of events and whoever wakes, as many in each run that has ended
abbrev pub ConnectsAgree : Type 0
ConnectsAgree = (g : Shape) (w w' : Net) → IsNetOf g w → IsNetOf g w' → HasEnded g w → HasEnded g w' → w.sent 0 ≡ w'.sent 0
