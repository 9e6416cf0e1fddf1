-- Fragments as trees: each node leads to another of its fragment, and so on up to the one that has the fragment's level and core.
use Rattle.std.specs.Prelude.{◌≡◌, ◌⊎◌, ℕ, suc, ◌≤◌, ◌<◌, Option, List, None, Some, length, slice_index, get_or, set}
use Rattle.ghs_graph.specs.declared.key.Key.{Key}
use Rattle.ghs_graph.specs.Key.{no_key}
use Rattle.ghs_protocol.specs.Merging.{Fragments, singles, one_connect, Merging}

-- each leads to one of a higher level, or to itself; levels are at most t
pub record AreTrees (t : ℕ) (parents levels : List ℕ) : Type 0 where
  pub places : length levels ≡ length parents
  pub inside : (v : ℕ) → v < length parents → slice_index parents v < length parents
  pub higher : (v : ℕ) → v < length parents → (slice_index parents v ≡ v) ⊎ (slice_index levels v < slice_index levels (slice_index parents v))
  pub top : (v : ℕ) → v < length parents → slice_index levels v ≤ t

-- v leads to r, which leads to itself: whatever is the same along each way is the same of both
pub record IsLeader (parents : List ℕ) (v r : ℕ) : Type 0 where
  pub inside : r < length parents
  pub itself : slice_index parents r ≡ r
  pub same : (f : ℕ → ℕ) → ((x : ℕ) → x < length parents → f (slice_index parents x) ≡ f x) → f r ≡ f v

-- Of two nodes that lead to themselves the one of the lower level leads to the other now; of equal ones the second to the first, one level higher.
pub data HasUnited (parents levels : List ℕ) (cores : List (Option Key)) (parents' levels' : List ℕ) (cores' : List (Option Key)) (a b : ℕ)
    (k : Key) : Type 0 where
  First_absorbed : slice_index levels a < slice_index levels b → parents' ≡ set parents a b → levels' ≡ levels → cores' ≡ cores →
      HasUnited parents levels cores parents' levels' cores' a b k
  Second_absorbed : slice_index levels b < slice_index levels a → parents' ≡ set parents b a → levels' ≡ levels → cores' ≡ cores →
      HasUnited parents levels cores parents' levels' cores' a b k
  Merged : slice_index levels a ≡ slice_index levels b → parents' ≡ set parents b a → levels' ≡ set levels a (suc (slice_index levels a)) →
      cores' ≡ set cores a (Some k) → HasUnited parents levels cores parents' levels' cores' a b k

-- the first t of these links have been taken, and merging has led to these fragments
pub record AreMerged (ks : List Key) (t : ℕ) (parents levels : List ℕ) (cores : List (Option Key)) : Type 0 where
  pub trees : AreTrees t parents levels
  pub places : length cores ≡ length parents
  pub to : Fragments
  pub links : List Key
  pub connects : ℕ
  pub way : Merging ks one_connect singles links connects to
  pub even : (u v : ℕ) → to.fragment u ≡ to.fragment v → (to.level u ≡ to.level v) × (to.core u ≡ to.core v)
  pub one : (v : ℕ) → v < length parents → to.fragment (slice_index parents v) ≡ to.fragment v
  pub alone : (u v : ℕ) → u < length parents → v < length parents → slice_index parents u ≡ u → slice_index parents v ≡ v →
      to.fragment u ≡ to.fragment v → u ≡ v
  pub level : (v : ℕ) → v < length parents → slice_index parents v ≡ v → slice_index levels v ≡ to.level v
  pub core : (v : ℕ) → v < length parents → slice_index parents v ≡ v → get_or cores v None ≡ to.core v
  pub within : (i : ℕ) → i < t → to.fragment (get_or ks i no_key).a ≡ to.fragment (get_or ks i no_key).b
