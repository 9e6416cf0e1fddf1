-- Merging the graph alone: its nodes lie in fragments, each with a level and a core, and fragments unite over least outgoing links.
use Rattle.std.specs.Prelude.{◌≡◌, ◌≢◌, ◌⊎◌, ℕ, suc, ◌+◌, min, ◌<◌, Bool, false, ◌||◌, ◌==◌, Option, Some, None, List, [], ◌∷◌, length, if◌then◌else◌}
use Rattle.std.specs.List.{Contains}
use Rattle.ghs_graph.specs.declared.key.Key.{Key}
use Rattle.ghs_graph.specs.Key.{key_lt}
use Rattle.ghs_graph.specs.Graph.{Shape, IsGraph}

-- of each node: its fragment, named by its least node, and the fragment's level and core, which is a link
pub record Fragments : Type 0 where
  pub fragment : ℕ → ℕ
  pub level : ℕ → ℕ
  pub core : ℕ → Option Key

-- each node a fragment of its own, of level 0 and without a core
abbrev pub singles : Fragments
singles = record { fragment = λ v. v; level = λ v. 0; core = λ v. None }

-- fragment f is a or b
abbrev pub is_either : ℕ → ℕ → ℕ → Bool
is_either a b f = (f == a) || (f == b)

-- the fragments of u and v are one, of level l and core n
abbrev pub united : ℕ → ℕ → ℕ → Option Key → Fragments → Fragments
united u v l n m = record {
  fragment = λ w. if is_either (m.fragment u) (m.fragment v) (m.fragment w) then min (m.fragment u) (m.fragment v) else m.fragment w;
  level = λ w. if is_either (m.fragment u) (m.fragment v) (m.fragment w) then l else m.level w;
  core = λ w. if is_either (m.fragment u) (m.fragment v) (m.fragment w) then n else m.core w;
}

-- u and v are the ends of the link
abbrev pub Between : Key → ℕ → ℕ → Type 0
Between k u v = ((k.a ≡ u) × (k.b ≡ v)) ⊎ ((k.a ≡ v) × (k.b ≡ u))

-- k, from u to v, is the least link that leads out of the fragment of u
pub record IsLeastOut (ks : List Key) (m : Fragments) (u v : ℕ) (k : Key) : Type 0 where
  pub link : Contains ks k
  pub ends : Between k u v
  pub out : m.fragment v ≢ m.fragment u
  pub least : (j : Key) (s t : ℕ) → Contains ks j → Between j s t → m.fragment s ≡ m.fragment u → m.fragment t ≢ m.fragment u → key_lt j k ≡ false

-- Over a link two fragments become one: they merge, where it is the least that leads out of both and their levels are equal,
-- or the one of which it is the least is absorbed by the other, of which the level is higher.
-- Who goes out pays, by its core and the node at which it goes out: both in a merge, the one that is absorbed in an absorb.
pub data Unites (ks : List Key) (pay : Option Key → ℕ → ℕ) (m : Fragments) : Key → ℕ → Fragments → Type 0 where
  Merge : (k : Key) (u v : ℕ) → IsLeastOut ks m u v k → IsLeastOut ks m v u k → m.level u ≡ m.level v →
      Unites ks pay m k (pay (m.core u) u + pay (m.core v) v) (united u v (suc (m.level u)) (Some k) m)
  Absorb : (k : Key) (u v : ℕ) → IsLeastOut ks m u v k → m.level u < m.level v →
      Unites ks pay m k (pay (m.core u) u) (united u v (m.level v) (m.core v) m)

-- each pays one Connect
abbrev pub one_connect : Option Key → ℕ → ℕ
one_connect c v = 1

-- fragments unite over these links, one after another, and this is paid
pub data Merging (ks : List Key) (pay : Option Key → ℕ → ℕ) : Fragments → List Key → ℕ → Fragments → Type 0 where
  Done : {m : Fragments} → Merging ks pay m [] 0 m
  Then : {m n z : Fragments} {k : Key} {es : List Key} {c d : ℕ} → Unites ks pay m k c n → Merging ks pay n es d z →
      Merging ks pay m (k ∷ es) (c + d) z

-- no link leads out of the fragment of v
abbrev pub IsWhole : List Key → Fragments → ℕ → Type 0
IsWhole ks m v = (j : Key) (s t : ℕ) → Contains ks j → Between j s t → m.fragment s ≡ m.fragment v → m.fragment t ≡ m.fragment v

-- no two fragments can unite
abbrev pub IsEnd : List Key → Fragments → Type 0
IsEnd ks m = (pay : Option Key → ℕ → ℕ) (k : Key) (c : ℕ) (n : Fragments) → Unites ks pay m k c n → Prim.⊥

-- all orders of merging end in one state, after as many steps, and as much is paid, whatever the fragments pay
abbrev pub OrdersAgree : Type 0
OrdersAgree =
    (ks : List Key) (pay : Option Key → ℕ → ℕ) (es fs : List Key) (c d : ℕ) (y z : Fragments) →
    Merging ks pay singles es c y → IsEnd ks y → Merging ks pay singles fs d z → IsEnd ks z →
    (y ≡ z) × (length es ≡ length fs) × (c ≡ d)

-- at an end no link leads out of any fragment: each component is one
abbrev pub EndsAreWhole : Type 0
EndsAreWhole =
    (ks : List Key) (pay : Option Key → ℕ → ℕ) (es : List Key) (c : ℕ) (z : Fragments) → Merging ks pay singles es c z → IsEnd ks z →
    (v : ℕ) → IsWhole ks z v

-- merging leads from single nodes to an end, for so much
pub record MergesAll (ks : List Key) (pay : Option Key → ℕ → ℕ) (c : ℕ) : Type 0 where
  pub links : List Key
  pub to : Fragments
  pub way : Merging ks pay singles links c to
  pub end : IsEnd ks to

-- it does so in each graph
abbrev pub MergingEnds : Type 0
MergingEnds = (g : Shape) → IsGraph g → (pay : Option Key → ℕ → ℕ) → (c : ℕ) × MergesAll g.keys pay c
