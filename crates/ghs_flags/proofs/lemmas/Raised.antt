-- Raised flags by their rank, and from a place on.
use Rattle.std.proofs.Common.{◌≡◌, ℕ, ◌+◌, ◌<◌, ◌≤◌, Bool, true, false, List, length, take, sym, ◌∙◌, arith, ⊎_elim, true≢false}
use Rattle.std.proofs.lemmas.Bool.{cases_lt, false_from_ne_true}
use Rattle.std.proofs.lemmas.List.{get_or_past}
use Rattle.std.proofs.lemmas.List.Sums.{sum_by-take-le, count_by_more_yes}
use Rattle.ghs_flags.specs.First.{NonePasses}
use Rattle.ghs_flags.specs.Flags.{IsKth, at, count, one_if}
use Rattle.ghs_flags.proofs.Sums.{front_le}

module _ (flags : List Bool) where
  -- a raised flag is one of the row
  pub raised_within : (i : ℕ) → at flags i ≡ true → i < length flags
  raised_within i up =
      ⊎_elim (λ (lt : i < length flags). lt) (λ (past : length flags ≤ i). absurd (true≢false (sym up ∙ get_or_past flags i false past)))
      (cases_lt i (length flags))

  -- and makes the front behind it one more
  more : (i : ℕ) → at flags i ≡ true → count (take (i + 1) flags) ≡ count (take i flags) + 1
  more i up = count_by_more_yes (λ b. b) flags i false (raised_within i up) up

  -- before a raised flag stand fewer raised ones than before each place behind it
  pub raised_before : (i j : ℕ) → at flags i ≡ true → i < j → count (take i flags) < count (take j flags)
  raised_before i j up lt = omega (arith, more i up, front_le one_if flags (i + 1) j (omega arith))

  -- the one with as many raised before it as before place e is the first from there on
  pub kth_from : (e i : ℕ) → IsKth flags (count (take e flags)) i → (e ≤ i) × NonePasses (at flags) e i
  kth_from e i kth = (
    ⊎_elim (λ (lt : i < e). let fewer = raised_before i e kth.raised lt in let same = kth.before in absurd (omega arith)) (λ (le : e ≤ i). le)
        (cases_lt i e),
    λ m lo hi. false_from_ne_true _ (λ (up : at flags m ≡ true).
        let fewer = raised_before m i up hi in
        let front = front_le one_if flags e m lo in
        let same = kth.before in
        absurd (omega arith)),
  )

  -- where all raised ones stand before place e, none does from there on
  pub none_from : (e : ℕ) → count flags ≤ count (take e flags) → (j : ℕ) → e ≤ j → at flags j ≡ false
  none_from e all j le = false_from_ne_true _ (λ (up : at flags j ≡ true).
      let one = more j up in
      let front = front_le one_if flags e j le in
      let whole = sum_by-take-le one_if flags (j + 1) in
      absurd (omega arith))
