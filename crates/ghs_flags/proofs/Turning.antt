-- One flag is turned.
use Rattle.std.proofs.Common.{◌≡◌, ◌≢◌, ℕ, ◌+◌, ◌*◌, ◌/◌, ◌%◌, ◌^◌, ◌<◌, Bool, false, not, cond, List, length, get_or, set, sym, ap, ◌∙◌, arith, ⊎_elim, length-set, get_or-set_same, get_or-set_other}
use Rattle.std.specs.Prelude.{count_ones}
use Rattle.std.specs.List.{sum_by}
use Rattle.std.proofs.lemmas.Bool.{cases_eq}
use Rattle.std.proofs.lemmas.Nat.{xor_lt, pow_below}
use Rattle.std.proofs.lemmas.List.Sums.{sum_by-set}
use Rattle.std.proofs.lemmas.List.FromFn.{fill_by_all}
use Rattle.ghs_flags.specs.Word.{has_bit, turned}
use Rattle.ghs_flags.specs.Row.{IsRow, flag_at, flags_of}
use Rattle.ghs_flags.specs.Flags.{count}
use Rattle.ghs_flags.proofs.Bits.{turned_same, turned_other}
use Rattle.ghs_flags.proofs.Ranks.{length-flags_of, at-flags_of, count-words}

-- the words in which flag p is the other way
abbrev pub turned_in : List ℕ → ℕ → List ℕ
turned_in words p = set words (p / 64) (turned (get_or words (p / 64) 0) (p % 64))

module _ (words : List ℕ) (p : ℕ) (within : p / 64 < length words) where
  flag_same : flag_at (turned_in words p) p ≡ not (flag_at words p)
  flag_same =
      let w = get_or words (p / 64) 0 in
      ap (λ (x : ℕ). has_bit x (p % 64)) (get_or-set_same words (p / 64) (turned w (p % 64)) 0 within) ∙ turned_same w (p % 64)

  flag_other : (q : ℕ) → q ≢ p → flag_at (turned_in words p) q ≡ flag_at words q
  flag_other q ne =
      let w = get_or words (p / 64) 0 in
      ⊎_elim
      (λ (same : q / 64 ≡ p / 64).
      let bit : q % 64 ≢ p % 64 = λ e. ne (omega arith) in
      rw same
      (ap (λ (x : ℕ). has_bit x (q % 64)) (get_or-set_same words (p / 64) (turned w (p % 64)) 0 within) ∙ turned_other w (p % 64) (q % 64) bit))
      (λ (other : q / 64 ≡ p / 64 → ⊥). ap (λ (x : ℕ). has_bit x (q % 64)) (get_or-set_other words (p / 64) (q / 64) (turned w (p % 64)) 0 other))
      (cases_eq (q / 64) (p / 64))

  pub flags-turned : (n : ℕ) → p < n → flags_of (turned_in words p) n ≡ set (flags_of words n) p (not (flag_at words p))
  unfolding flags_of
  flags-turned n lt =
      sym
      (fill_by_all (flag_at (turned_in words p)) (set (flags_of words n) p (not (flag_at words p))) n false
      (length-set (flags_of words n) p (not (flag_at words p)) ∙ length-flags_of words n) each)
    where
      each : (q : ℕ) → q < n → get_or (set (flags_of words n) p (not (flag_at words p))) q false ≡ flag_at (turned_in words p) q
      each q inside = ⊎_elim
          (λ (same : q ≡ p).
          rw same
          (get_or-set_same (flags_of words n) p (not (flag_at words p)) false (let len = length-flags_of words n in omega arith)
          ∙ sym flag_same))
          (λ (other : q ≡ p → ⊥).
          get_or-set_other (flags_of words n) p q (not (flag_at words p)) false other ∙ at-flags_of words n q inside ∙ sym (flag_other q other))
          (cases_eq q p)

  -- how many flags are raised then
  count-turned : (n : ℕ) → p < n
      → count (flags_of (turned_in words p) n) + cond (flag_at words p) 1 0 ≡ count (flags_of words n) + cond (not (flag_at words p)) 1 0
  count-turned n lt =
      let one = sum_by-set (λ (b : Bool). cond b 1 0) (flags_of words n) p (not (flag_at words p)) false
      (let len = length-flags_of words n in omega arith) in
      ap (λ (fs : List Bool). count fs + cond (flag_at words p) 1 0) (flags-turned n lt)
      ∙ ap (λ (b : Bool). count (set (flags_of words n) p (not (flag_at words p))) + cond b 1 0) (sym (at-flags_of words n p lt)) ∙ one

  module _ (fits : (k : ℕ) → get_or words k 0 < 2 ^ 64) where
    fit_turned : (k : ℕ) → get_or (turned_in words p) k 0 < 2 ^ 64
    fit_turned k =
        let w = get_or words (p / 64) 0 in
        let new : turned w (p % 64) < 2 ^ 64 = xor_lt 64 w (2 ^ (p % 64)) (fits (p / 64)) (pow_below (p % 64) 64 (omega arith)) in
        ⊎_elim
        (λ (same : k ≡ p / 64). rw (same, get_or-set_same words (p / 64) (turned w (p % 64)) 0 within) new)
        (λ (other : k ≡ p / 64 → ⊥). rw (get_or-set_other words (p / 64) k (turned w (p % 64)) 0 other) (fits k))
        (cases_eq k (p / 64))

    ones-turned : sum_by count_ones (turned_in words p) + cond (flag_at words p) 1 0 ≡ sum_by count_ones words + cond (not (flag_at words p)) 1 0
    ones-turned =
        let old = count-words words fits in
        let long : length (turned_in words p) ≡ length words = length-set words (p / 64) (turned (get_or words (p / 64) 0) (p % 64)) in
        let new = rw long at (count-words (turned_in words p) fit_turned) in
        let both = count-turned (length words * 64) (omega arith) in
        omega arith

    pub row_turned : (n : ℕ) → IsRow words n → p < n → IsRow (turned_in words p) n
    row_turned n row lt = record {
      bits = fit_turned;
      few = row.few;
      enough = length-set words (p / 64) (turned (get_or words (p / 64) 0) (p % 64)) ∙ row.enough;
      all = let all = row.all in let sums = ones-turned in let both = count-turned n lt in omega arith;
    }
