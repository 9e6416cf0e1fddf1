-- A node's state.
use Rattle.std.specs.Prelude.{ℕ, zero, suc, ◌==◌, Bool, true, false, Option, None, Some, List, [], ◌++◌, length, map, replicate, slice_index_or, slice_set, nat_lt}
use Rattle.ghs_graph.specs.declared.key.Key.{Key}
use Rattle.ghs_graph.specs.declared.port.Port.{Port}
use Rattle.gather_node.specs.declared.change.Change.{Change}
use Rattle.gather_node.specs.declared.head.Head.{Head}
use Rattle.gather_node.specs.Forest.{has}

-- a node: its number, the keys of its ports in key order, its own variables, the links that came with an answer at each port, if one did,
-- and which ports are Branch
pub record State : Type 0 where
  pub number : ℕ
  pub keys : List Key
  pub head : Head
  pub brought : List (Option (List Key))
  pub branches : List Bool

-- how many ports a node has
abbrev pub degree : State → ℕ
degree n = length n.keys

-- no links have come at any of n ports
abbrev pub nothing_brought : ℕ → List (Option (List Key))
nothing_brought n = replicate n None

-- the opening node: asleep, no port Branch
abbrev pub sleeper : ℕ → List Port → State
sleeper v ps = record {
  number = v;
  keys = map (λ (p : Port). p.key) ps;
  head = record { wave = None; parent = None; awaits = 0; halted = false };
  brought = nothing_brought (length ps);
  branches = replicate (length ps) false;
}

-- p is that port, if there is one
abbrev pub is_that : Option ℕ → ℕ → Bool
is_that None p = false
is_that (Some q) p = q == p

-- the node takes part in wave x, or would leave its own for it
abbrev pub is_in : State → ℕ → Bool
is_in n x = is_that n.head.wave x

abbrev pub would_join : Option ℕ → ℕ → Bool
would_join None x = true
would_join (Some y) x = nat_lt x y

-- the links that came at a port, and at the first n ports
abbrev pub links_at : Option (List Key) → List Key
links_at None = []
links_at (Some ks) = ks

abbrev pub links_to : ℕ → List (Option (List Key)) → List Key
links_to zero bs = []
links_to (suc n) bs = links_to n bs ++ links_at (slice_index_or bs n None)

-- all links that the node knows by this wave: its own, and those that came
abbrev pub known : State → List Key
known n = n.keys ++ links_to (degree n) n.brought

-- the ports whose links are in the tree
abbrev pub marks : List Key → List Key → List Bool
marks tree keys = map (has tree) keys

-- a node's state after a change
abbrev pub with_forgotten : Bool → List Key → List (Option (List Key)) → List (Option (List Key))
with_forgotten true keys bs = nothing_brought (length keys)
with_forgotten false keys bs = bs

abbrev pub with_brought : Option (ℕ × List Key) → List (Option (List Key)) → List (Option (List Key))
with_brought None bs = bs
with_brought (Some x) bs = slice_set bs x.0 (Some x.1)

abbrev pub with_tree : Option (List Key) → List Key → List Bool → List Bool
with_tree None keys ms = ms
with_tree (Some ks) keys ms = marks ks keys

abbrev pub after : State → Change → State
after n c = record n {
  head = c.head;
  brought = with_brought c.brought (with_forgotten c.forgets n.keys n.brought);
  branches = with_tree c.tree n.keys n.branches;
}
