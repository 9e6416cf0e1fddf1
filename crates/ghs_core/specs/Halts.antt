-- Which nodes have halted, and which components have one that has.
use Rattle.std.specs.Prelude.{◌≡◌, ℕ, ◌+◌, ◌≤◌, ◌<◌, Bool, true, false, not, ◌||◌, ◌==◌, ◌↔◌, Option, Some, None, min, List, length, count_by, slice_index_or}
use Rattle.ghs_graph.specs.Graph.{Shape, IsGraph}
use Rattle.ghs_graph.specs.Links.{Joined, links}
use Rattle.ghs_graph.specs.Components.{IsRoot, HasComponents}
use Rattle.ghs_core.specs.declared.halts.Halts.{Halts}

-- the least of the nodes from 1 to count that have halted, if one has
abbrev pub IsLeast : (ℕ → Bool) → ℕ → Option ℕ → Type 0
IsLeast halted count None = (v : ℕ) → 1 ≤ v → v ≤ count → halted v ≡ true → ⊥
IsLeast halted count (Some v) = (1 ≤ v) × (v ≤ count) × (halted v ≡ true) × ((u : ℕ) → 1 ≤ u → u < v → halted u ≡ true → ⊥)

-- v is joined with a node that has halted
abbrev pub HasOne : Shape → (ℕ → Bool) → ℕ → Type 0
HasOne g halted v = (u : ℕ) × (1 ≤ u) × (u ≤ g.nodes) × Joined (links g.keys) v u × (halted u ≡ true)

-- the flag of a root is down: no node of its component has halted
abbrev pub is_running : List Bool → ℕ → Bool
is_running ended r = not (slice_index_or ended r true)

-- so many components have no node that has halted
pub record AreRunning (g : Shape) (ended : List Bool) (running : ℕ) : Type 0 where
  pub count : ℕ
  pub components : HasComponents g count
  pub number : count_by (is_running ended) components.leasts ≡ running

-- the halts are those of the nodes that have halted
pub record AreHalts (g : Shape) (halted : ℕ → Bool) (h : Halts) : Type 0 where
  pub graph : IsGraph g
  pub least : IsLeast halted g.nodes h.least
  pub places : length h.ended.items ≡ g.nodes + 1
  pub ended : (r : ℕ) → 1 ≤ r → r ≤ g.nodes → IsRoot g.keys r r → (slice_index_or h.ended.items r true ≡ true) ↔ HasOne g halted r
  pub running : AreRunning g h.ended.items h.running

-- whichever nodes have halted
abbrev pub AreHaltsOfSome : Shape → Halts → Type 0
AreHaltsOfSome g h = (halted : ℕ → Bool) × AreHalts g halted h

abbrev pub none_halted : ℕ → Bool
none_halted v = false

-- node v has halted as well
abbrev pub also : (ℕ → Bool) → ℕ → ℕ → Bool
also halted v u = halted u || (u == v)

-- the same, but for what node v has done: it has halted, or not
abbrev pub with_node : (ℕ → Bool) → ℕ → Bool → ℕ → Bool
with_node halted v true = also halted v
with_node halted v false = halted

-- the least of them then
abbrev pub lesser : Option ℕ → ℕ → ℕ
lesser None v = v
lesser (Some u) v = min u v
