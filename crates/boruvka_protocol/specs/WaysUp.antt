-- Ways up: what is taken leads from each node of a class to its top, and what leaves the class from a node or from below it.
use Rattle.std.specs.Prelude.{◌≡◌, ℕ, zero, suc, true, false, List}
use Rattle.std.specs.List.{Contains}
use Rattle.ghs_graph.specs.declared.key.Key.{Key}
use Rattle.ghs_graph.specs.Key.{key_lt, ends_at}
use Rattle.ghs_graph.specs.Links.{Joined}
use Rattle.ghs_graph.specs.Ports.{far_end}
use Rattle.boruvka_protocol.specs.Levels.{Leaves}
use Rattle.boruvka_protocol.specs.Cores.{IsCore}

-- the top of the class of v at a level: the smaller end of its core; at level 0 v itself
abbrev pub IsTop : List Key → ℕ → ℕ → ℕ → Type 0
IsTop ks zero v r = r ≡ v
IsTop ks (suc l) v r = (c : Key) × IsCore ks l v c × (r ≡ c.a)

-- the links of S that don't end at v
abbrev pub Away : (Key → Type 0) → ℕ → Key → Type 0
Away S v k = S k × (ends_at v k ≡ false)

-- k is the way up from v to r: a link at v, from whose far end S leads on to r without coming back to v
pub record IsUp (S : Key → Type 0) (r v : ℕ) (k : Key) : Type 0 where
  pub link : S k
  pub ends : ends_at v k ≡ true
  pub on : Joined (Away S v) (far_end v k) r

-- u is v or below it: ways up lead from u to v
pub data IsBelow (S : Key → Type 0) (r : ℕ) : ℕ → ℕ → Type 0 where
  Here : {v : ℕ} → IsBelow S r v v
  Up : {u v : ℕ} (k : Key) → IsUp S r u k → IsBelow S r (far_end u k) v → IsBelow S r u v

-- k leads out of the class, from v or from a node below it
pub record LeavesBelow (ks : List Key) (S : Key → Type 0) (r v : ℕ) (k : Key) : Type 0 where
  pub link : Contains ks k
  pub node : ℕ
  pub below : IsBelow S r node v
  pub ends : ends_at node k ≡ true
  pub leaves : Leaves S node k

-- it is the least that does
pub record IsSub (ks : List Key) (S : Key → Type 0) (r v : ℕ) (k : Key) : Type 0 where
  pub is : LeavesBelow ks S r v k
  pub least : (j : Key) → LeavesBelow ks S r v j → key_lt j k ≡ false

-- what v knows by itself and from its children: the links that leave at it, and of each node whose way up leads to it the least
pub data IsOffered (ks : List Key) (S : Key → Type 0) (r v : ℕ) (k : Key) : Type 0 where
  Own : Contains ks k → ends_at v k ≡ true → Leaves S v k → IsOffered ks S r v k
  From_child : (u : ℕ) (j : Key) → IsUp S r u j → far_end u j ≡ v → IsSub ks S r u k → IsOffered ks S r v k

-- it is the least of them
pub record IsLeastOffered (ks : List Key) (S : Key → Type 0) (r v : ℕ) (k : Key) : Type 0 where
  pub is : IsOffered ks S r v k
  pub least : (j : Key) → IsOffered ks S r v j → key_lt j k ≡ false
