-- Sets of links: what they join, and the minimum spanning forest, which is a tree where they join all nodes.
use Rattle.std.specs.Prelude.{◌≡◌, ℕ, ◌≤◌, ◌<◌, List, true}
use Rattle.std.specs.List.{All, AllPairs, Contains, sum_by}
use Rattle.ghs_graph.specs.declared.key.Key.{Key}
use Rattle.ghs_graph.specs.Key.{key_lt}

-- u is v, or links of S lead from u to v
pub data Joined (S : Key → Type 0) : ℕ → ℕ → Type 0 where
  Same : {v : ℕ} → Joined S v v
  Over : {v : ℕ} (k : Key) → S k → Joined S k.b v → Joined S k.a v
  Back : {v : ℕ} (k : Key) → S k → Joined S k.a v → Joined S k.b v

-- the links of a list
abbrev pub links : List Key → Key → Type 0
links ks j = Contains ks j

-- some are links of ks
abbrev pub AreLinksOf : List Key → List Key → Type 0
AreLinksOf ks some = (k : Key) → Contains some k → Contains ks k

-- some join whatever ks join
abbrev pub JoinAll : List Key → List Key → Type 0
JoinAll ks some = (u v : ℕ) → Joined (links ks) u v → Joined (links some) u v

-- the links of a list with smaller keys than k
abbrev pub links_below : List Key → Key → Key → Type 0
links_below ks k j = Contains ks j × (key_lt j k ≡ true)

-- the links of a list have smaller keys than k
abbrev pub AllBelow : List Key → Key → Type 0
AllBelow ks k = (j : Key) → Contains ks j → key_lt j k ≡ true

-- a link of the minimum spanning forest: its ends aren't joined by the links with smaller keys
abbrev pub InTree : List Key → Key → Type 0
InTree ks k = Contains ks k × (Joined (links_below ks k) k.a k.b → ⊥)

-- each key is less than every later one
abbrev pub IsRising : List Key → Type 0
IsRising ks = AllPairs (λ j k. key_lt j k ≡ true) ks

-- the list has the links of the minimum spanning forest, in key order
pub record IsTree (ks tree : List Key) : Type 0 where
  pub rising : IsRising tree
  pub has : (k : Key) → Contains tree k → InTree ks k
  pub all : (k : Key) → InTree ks k → Contains tree k

-- ends among n nodes, the smaller first
abbrev pub AreAmong : ℕ → List Key → Type 0
AreAmong n ks = All (λ k. (1 ≤ k.a) × (k.a < k.b) × (k.b ≤ n)) ks

-- the weights of links together
abbrev pub total_weight : List Key → ℕ
total_weight ks = sum_by (λ (k : Key). k.weight) ks
