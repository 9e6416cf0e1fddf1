-- Lists of counts, and what adds them up.
use Rattle.std.specs.Prelude.{◌≡◌, ℕ, ◌+◌, ◌*◌, ◌/◌, ◌<◌, ◌≤◌, ◌^◌, List, length, take, slice_index}
use Rattle.std.specs.List.{sum, sum_by}
use Rattle.ghs_flags.specs.declared.counts.TheConstants.{WIDTH}

-- the sum of the counts passes k at place i, where r of k are left
pub record PassesAt (counts : List ℕ) (k i r : ℕ) : Type 0 where
  pub within : i < length counts
  pub before : sum (take i counts) + r ≡ k
  pub here : r < slice_index counts i

-- each count is what a block of w below it weighs together: said by the sums of fronts, past the end too
pub record AreCounts {X : Type 0} (w : ℕ) (weight : X → ℕ) (counts : List ℕ) (below : List X) : Type 0 where
  pub fronts : (i : ℕ) → sum (take i counts) ≡ sum_by weight (take (i * w) below)
  pub many : length counts ≡ length below / w + 1

-- three heights above a list of counts, each over blocks of the one below it
pub record IsTower (counts groups regions zones : List ℕ) (total : ℕ) : Type 0 where
  pub short : length counts ≤ 2 ^ 32
  pub first : AreCounts WIDTH (λ n. n) groups counts
  pub second : AreCounts WIDTH (λ n. n) regions groups
  pub third : AreCounts WIDTH (λ n. n) zones regions
  pub all : total ≡ sum counts
  pub few : total < 2 ^ 32
