-- Levels of a graph by node: the class's name, the way up, the least way out, and what leaves from a node or below it.
use Rattle.std.specs.Prelude.{◌≡◌, ◌⊎◌, ℕ, zero, suc, ◌<◌, Option, Some, None, List}
use Rattle.ghs_graph.specs.declared.key.Key.{Key}
use Rattle.boruvka_protocol.specs.Levels.{IsLeastOut, Taken}
use Rattle.boruvka_protocol.specs.Cores.{IsCore}
use Rattle.boruvka_protocol.specs.WaysUp.{IsTop, IsUp, LeavesBelow, IsSub}
use Rattle.boruvka_node.specs.declared.message.Phase.{Phase}
use Rattle.boruvka_node.specs.declared.message.Phase.TheVariants.{Rest}

-- above the level m, or at m and at rest: a node of this level and phase has ended its search of level m
abbrev pub IsPast : ℕ → ℕ → Phase → Type 0
IsPast m level phase = (m < level) ⊎ ((level ≡ m) × (phase ≡ Rest))

module _ (ks : List Key) where
  -- the name of the class of v at a level: none at level 0, then its core
  abbrev pub IsName : ℕ → ℕ → Option Key → Type 0
  IsName zero v name = name ≡ None
  IsName (suc l) v name = (c : Key) × (name ≡ Some c) × IsCore ks l v c

  -- k is the least way out of the class of v at a level
  abbrev pub IsLeast : ℕ → ℕ → Key → Type 0
  IsLeast l v k = IsLeastOut ks (Taken ks l) v k

  -- v is the root of its class at a level
  abbrev pub IsRoot : ℕ → ℕ → Type 0
  IsRoot l v = IsTop ks l v v

  -- k is the way up of v at a level
  pub record IsWayUp (l v : ℕ) (k : Key) : Type 0 where
    pub root : ℕ
    pub top : IsTop ks l v root
    pub up : IsUp (Taken ks l) root v k

  -- k is the least key that leaves the class of v at a level from v or below it
  pub record IsSubAt (l v : ℕ) (k : Key) : Type 0 where
    pub root : ℕ
    pub top : IsTop ks l v root
    pub sub : IsSub ks (Taken ks l) root v k

  -- no key does
  abbrev pub HasNoSub : ℕ → ℕ → Type 0
  HasNoSub l v = (r : ℕ) → IsTop ks l v r → (k : Key) → LeavesBelow ks (Taken ks l) r v k → ⊥

  -- this is the least key that does, or none where no key does
  abbrev pub SubIs : ℕ → ℕ → Option Key → Type 0
  SubIs l v None = HasNoSub l v
  SubIs l v (Some k) = IsSubAt l v k
