-- A node's state.
use Rattle.std.specs.Prelude.{◌≡◌, ◌≢◌, ℕ, ◌<◌, ◌≤◌, ◌↔◌, false, Option, Some, None, List, length, map, replicate, slice_index_or, slice_set}
use Rattle.std.specs.List.{All}
use Rattle.ghs_graph.specs.declared.key.Key.{Key}
use Rattle.ghs_graph.specs.declared.port.Port.{Port}
use Rattle.ghs_graph.specs.Key.{no_key}
use Rattle.ghs_graph.specs.Graph.{ARC_LIMIT}
use Rattle.ghs_node.specs.declared.level.TheConstants.{TOP_LEVEL}
use Rattle.ghs_node.specs.declared.head.Head.{Head}
use Rattle.ghs_node.specs.declared.mark.Mark.{Mark}
use Rattle.ghs_node.specs.declared.mark.Mark.TheVariants.{Basic, Rejected}
use Rattle.ghs_node.specs.declared.message.Phase.TheVariants.{Sleeping, Find}

-- a node: its number, the keys of its ports in key order, the marks of these ports, and its own variables
pub record NodeState : Type 0 where
  pub number : ℕ
  pub keys : List Key
  pub marks : List Mark
  pub head : Head

-- the key of a port
abbrev pub key_at : NodeState → ℕ → Key
key_at n p = slice_index_or n.keys p no_key

-- the mark of a port; what is no port counts as Rejected
abbrev pub mark_at : NodeState → ℕ → Mark
mark_at n p = slice_index_or n.marks p Rejected

-- how many ports a node has
abbrev pub degree : NodeState → ℕ
degree n = length n.marks

-- the marks after a change of one of them at most
abbrev pub with_mark : List Mark → Option (ℕ × Mark) → List Mark
with_mark ms None = ms
with_mark ms (Some m) = slice_set ms m.0 m.1

-- the head of a node that nothing has happened to
abbrev pub untouched : Head
untouched = record { level = 0; name = None; phase = Sleeping; find_count = 0; in_branch = None; best = None; probe = None; halted = false }

-- the opening node: asleep, its marks Basic
abbrev pub sleeper : ℕ → List Port → NodeState
sleeper v ps = record { number = v; keys = map (λ (p : Port). p.key) ps; marks = replicate (length ps) Basic; head = untouched }

-- the port, if there is one, is below the number of ports
abbrev pub IsPortBelow : ℕ → Option ℕ → Type 0
IsPortBelow d None = Unit {0}
IsPortBelow d (Some p) = p < d

abbrev pub BestIsBelow : ℕ → Option (ℕ × Key) → Type 0
BestIsBelow d None = Unit {0}
BestIsBelow d (Some b) = b.0 < d

-- what every node keeps
pub record IsNode (n : NodeState) : Type 0 where
  pub ports : length n.marks ≡ length n.keys
  pub few : length n.marks ≤ ARC_LIMIT
  pub level : n.head.level ≤ TOP_LEVEL
  -- before the first Initiate there is no name, no way to the core, and nothing to search for
  pub unnamed : (n.head.in_branch ≡ None) ↔ (n.head.name ≡ None)
  pub new : n.head.name ≡ None → (n.head.level ≡ 0) × (n.head.find_count ≡ 0) × (n.head.best ≡ None) × (n.head.probe ≡ None) × (n.head.phase ≢ Find)
  -- a sleeping node is as it was at the opening
  pub asleep : n.head.phase ≡ Sleeping → (n.head ≡ untouched) × All (λ m. m ≡ Basic) n.marks
  pub in_branch : IsPortBelow (length n.marks) n.head.in_branch
  pub best : BestIsBelow (length n.marks) n.head.best
  pub probe : IsPortBelow (length n.marks) n.head.probe
  pub find_count : n.head.find_count ≤ length n.marks
