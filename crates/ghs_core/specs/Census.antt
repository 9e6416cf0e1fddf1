-- The fragments of a net, counted.
use Rattle.std.specs.Prelude.{◌≡◌, ℕ, ◌+◌, ◌≤◌, ◌<◌, ◌^◌, Bool, nat_lt, max, List, length, slice_index, slice_index_or, filter}
use Rattle.std.specs.List.{All, AllPairs, Contains}
use Rattle.ghs_node.specs.NodeState.{NodeState}
use Rattle.peer_network.specs.Network.{Network}
use Rattle.ghs_protocol.specs.Net.{Net}
use Rattle.ghs_protocol.specs.Marks.{InOneFragment}
use Rattle.ghs_core.specs.declared.census.FragmentRow.{FragmentRow}
use Rattle.ghs_core.specs.Marked.{IsFragment, HaveRoot, node_in}

-- one of some nodes has this level, and none of them has a greater one
pub record IsGreatestLevel (w : Net) (us : List ℕ) (level : ℕ) : Type 0 where
  pub has : (u : ℕ) × Contains us u × ((w.node u).head.level ≡ level)
  pub most : (u : ℕ) → Contains us u → (w.node u).head.level ≤ level

-- the row of a fragment: its least node, the greatest level of its nodes, and how many they are
pub record IsRow (g : Network) (w : Net) (row : FragmentRow) : Type 0 where
  pub nodes : List ℕ
  pub fragment : IsFragment g w row.least nodes
  pub least : (u : ℕ) → Contains nodes u → row.least ≤ u
  pub level : IsGreatestLevel w nodes row.level
  pub number : length nodes ≡ row.nodes

-- each fragment once, in the order of their least nodes
pub record IsCensus (g : Network) (w : Net) (rows : List FragmentRow) : Type 0 where
  pub rising : AllPairs (λ r s. r.least < s.least) rows
  pub each : All (IsRow g w) rows
  pub all : (v : ℕ) → 1 ≤ v → v ≤ g.count → (r : FragmentRow) × Contains rows r × InOneFragment g w r.least v

-- a fragment of level L has at least 2^L nodes
abbrev pub AreLarge : List FragmentRow → Type 0
AreLarge rows = All (λ r. 2 ^ r.level ≤ r.nodes) rows

-- How it is found: each number has a root, and at the root's place is the row of its class.

abbrev pub level_in : List NodeState → ℕ → ℕ
level_in nodes v = (node_in nodes v).head.level

-- the row with one node more, of this level
abbrev pub with_one : FragmentRow → ℕ → FragmentRow
with_one r level = record { least = r.least; level = max r.level level; nodes = r.nodes + 1 }

-- stands where a list lookup wants a default
abbrev pub no_row : FragmentRow
no_row = record { least = 0; level = 0; nodes = 0 }

-- the row of the numbers below a limit whose root is r
pub record CountsClass (roots : List ℕ) (level : ℕ → ℕ) (limit r : ℕ) (row : FragmentRow) : Type 0 where
  pub least : row.least ≡ r
  pub members : List ℕ
  pub are : HaveRoot roots limit r members
  pub has : 0 < row.level → (u : ℕ) × Contains members u × (level u ≡ row.level)
  pub most : (u : ℕ) → Contains members u → level u ≤ row.level
  pub nodes : length members ≡ row.nodes
  pub few : row.nodes < limit

-- at each place is the row of the numbers below a limit whose root it is
pub record CountClasses (roots : List ℕ) (level : ℕ → ℕ) (limit : ℕ) (rows : List FragmentRow) : Type 0 where
  pub places : length rows ≡ length roots
  pub each : (r : ℕ) → r < length roots → CountsClass roots level limit r (slice_index_or rows r no_row)

abbrev pub has_nodes : FragmentRow → Bool
has_nodes r = nat_lt 0 r.nodes

-- the rows of all classes
pub record AreCounted (roots : List ℕ) (level : ℕ → ℕ) (rows : List FragmentRow) : Type 0 where
  pub places : List FragmentRow
  pub counted : CountClasses roots level (length roots) places
  pub kept : rows ≡ filter has_nodes places

-- each node has a root, which is a node
pub record HaveRoots (roots : List ℕ) (nodes : List NodeState) : Type 0 where
  pub places : length roots ≡ length nodes + 1
  pub few : length nodes ≤ 1048576
  pub within : (v : ℕ) → 1 ≤ v → v ≤ length nodes → slice_index roots v ≤ length nodes
