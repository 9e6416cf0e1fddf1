-- Which nodes may wake by themselves.
use Rattle.std.specs.Prelude.{◌≡◌, ◌≤◌, ◌↔◌, ◌+◌, ℕ, Bool, true, not, ◌&&◌, ◌||◌, ◌==◌, nat_lt, List, Option, None}
use Rattle.std.specs.List.{find, list_any}
use Rattle.ghs_graph.specs.Graph.{Shape}
use Rattle.ghs_graph.specs.Components.{IsRoot}
use Rattle.ghs_graph.specs.Computing.{is_root}
use Rattle.ghs_graph.specs.Links.{Joined, links}
use Rattle.peer_network.specs.declared.wake_set.WakeSet.{WakeSet}
use Rattle.peer_network.specs.declared.wake_set.WakeSet.TheVariants.{All, First, Listed}

-- node v of the graph is its own root: the least of its component
unfoldable pub is_first : Shape → ℕ → Bool
is_first g v = is_root g.keys v v

-- w is a node of the graph
abbrev pub is_in : Shape → ℕ → Bool
is_in g w = nat_lt 0 w && nat_lt w (g.nodes + 1)

-- w is a node of the component whose root is r
unfoldable pub is_under : Shape → ℕ → ℕ → Bool
is_under g r w = is_in g w && is_root g.keys w r

-- node v is listed, or it is the least of a component that has none of those listed
abbrev pub is_woken : Shape → List ℕ → ℕ → Bool
is_woken g listed v = list_any (λ w. w == v) listed || (is_first g v && not (list_any (is_under g v) listed))

-- node v of the graph may wake by itself: in All each node may, in First the least of each component
abbrev pub may_wake : Shape → WakeSet → ℕ → Bool
may_wake g All v = true
may_wake g First v = is_first g v
may_wake g (Listed wakers) v = is_woken g wakers.nodes v

-- the first node that is listed and that a graph of n nodes doesn't have
abbrev pub missing : WakeSet → ℕ → Option ℕ
missing (Listed wakers) n = find (λ w. nat_lt n w) wakers.nodes
missing All n = None
missing First n = None

abbrev pub FirstAreRoots : Type 0
FirstAreRoots = (g : Shape) (v : ℕ) → ((may_wake g First v ≡ true) ↔ IsRoot g.keys v v)

-- each node is joined with one that may wake by itself
abbrev pub AllMayWake : (ℕ → Bool) → Shape → Type 0
AllMayWake may g = (v : ℕ) → 1 ≤ v → v ≤ g.nodes → (u : ℕ) × (1 ≤ u) × (u ≤ g.nodes) × Joined (links g.keys) v u × (may u ≡ true)
