-- Levels of a graph: at each level all classes take their least ways out at once. No protocol is in it.
use Rattle.std.specs.Prelude.{◌≡◌, ◌⊎◌, ℕ, zero, suc, false, List}
use Rattle.std.specs.List.{Contains}
use Rattle.ghs_graph.specs.declared.key.Key.{Key}
use Rattle.ghs_graph.specs.Key.{key_lt}
use Rattle.ghs_graph.specs.Links.{Joined}

-- the link leads out of the class of v, which is what S joins with v: one end lies inside, the other doesn't
abbrev pub Leaves : (Key → Type 0) → ℕ → Key → Type 0
Leaves S v k = (Joined S v k.a × (Joined S v k.b → ⊥)) ⊎ (Joined S v k.b × (Joined S v k.a → ⊥))

-- it is the least of the links ks that do
pub record IsLeastOut (ks : List Key) (S : Key → Type 0) (v : ℕ) (k : Key) : Type 0 where
  pub link : Contains ks k
  pub leaves : Leaves S v k
  pub least : (j : Key) → Contains ks j → Leaves S v j → key_lt j k ≡ false

-- the links that are taken up to a level: none up to level 0; then, a level further, also the least way out of each class
abbrev pub Taken : List Key → ℕ → Key → Type 0
Taken ks zero k = ⊥
Taken ks (suc l) k = Taken ks l k ⊎ ((v : ℕ) × IsLeastOut ks (Taken ks l) v k)

-- u lies in the class of v at a level: what is taken up to it joins them
abbrev pub InClass : List Key → ℕ → ℕ → ℕ → Type 0
InClass ks l v u = Joined (Taken ks l) v u

-- a link leads out of the class of v at a level
abbrev pub HasWayOut : List Key → ℕ → ℕ → Type 0
HasWayOut ks l v = (k : Key) × Contains ks k × Leaves (Taken ks l) v k

-- the class of v at a level is of that level: each of its parts, which are classes at the level below, is of that one and had a way out
abbrev pub IsOfLevel : List Key → ℕ → ℕ → Type 0
IsOfLevel ks zero v = Unit
IsOfLevel ks (suc l) v = (u : ℕ) → InClass ks (suc l) v u → IsOfLevel ks l u × HasWayOut ks l u
