-- What a row of flags keeps whose blocks are counted.
use Rattle.std.proofs.Common.{◌≡◌, ℕ, ◌+◌, ◌/◌, ◌<◌, ◌≤◌, Bool, true, false, List, length, get_or, set, ap, arith, length-set}
use Rattle.std.specs.List.{sum}
use Rattle.std.proofs.lemmas.List.Sums.{count_by-le-length}
use Rattle.ghs_flags.specs.declared.flags.TheConstants.{BLOCK, FLAG_LIMIT}
use Rattle.ghs_flags.specs.Flags.{IsCounted, at, count, one_if}
use Rattle.ghs_flags.proofs.Sums.{counts_all, counts_set, weight_le}
use Rattle.ghs_flags.proofs.lemmas.Raised.{raised_within}

-- A row of flags and the counts of its blocks.
module _ {flags : List Bool} {blocks : List ℕ} (kept : IsCounted flags blocks) where
  pub sum_blocks : sum blocks ≡ count flags
  sum_blocks = counts_all BLOCK (omega arith) one_if blocks flags kept.counted

  pub count_few : count flags ≤ FLAG_LIMIT
  count_few = let few = kept.few in omega (arith, count_by-le-length (λ b. b) flags)

  pub block_some : (p : ℕ) → at flags p ≡ true → 0 < get_or blocks (p / BLOCK) 0
  block_some p up =
      let one : one_if (at flags p) ≡ 1 = ap one_if up in
      omega (arith, weight_le BLOCK (omega arith) one_if blocks flags kept.counted p (raised_within flags p up) false)

  -- a flag is written to, and its block's count
  pub counted_set : (p : ℕ) (y : Bool) (c : ℕ) → p < length flags → c + one_if (at flags p) ≡ get_or blocks (p / BLOCK) 0 + one_if y
      → IsCounted (set flags p y) (set blocks (p / BLOCK) c)
  counted_set p y c lt change = record {
    few = let few = kept.few in omega (arith, length-set flags p y);
    counted = counts_set BLOCK (omega arith) one_if blocks flags kept.counted p lt y false c change;
  }
