-- Sums over parts, of whatever has a part.
use Rattle.std.proofs.Common.{◌≡◌, ◌≢◌, ℕ, zero, suc, ◌+◌, ◌<◌, ◌≤◌, ◌==◌, Bool, true, false, List, [], ◌∷◌, ◌++◌, cond, refl, ⊎_elim, arith, eq-eqb, ne_eqb}
use Rattle.std.specs.List.{sum_by}
use Rattle.std.proofs.lemmas.Bool.{cases_eq}
use Rattle.std.proofs.lemmas.List.Sums.{sum_by-cons, sum_by_push, sum_by-le-sum_by}
use Rattle.peer_network.specs.Sums.{sum_below}
use Rattle.peer_network.proofs.lemmas.Sums.{sum_same, sum_none, sum_add}
use Rattle.peer_parts.specs.Parts.{sum_in}

-- a part's share of a number
cond_le : (b : Bool) (x : ℕ) → cond b x 0 ≤ x
cond_le true x = omega arith
cond_le false x = omega arith

-- a number that one place has
hot : (n j x first : ℕ) → first ≤ j → j < first + n → sum_below n (λ i. cond (j == first + i) x 0) ≡ x
hot zero j x first lo hi = absurd (omega arith)
hot (suc n) j x first lo hi = ⊎_elim here (there (λ less. hot n j x first lo less)) (cases_eq j (first + n))
  where
    here : j ≡ first + n → sum_below n (λ i. cond (j == first + i) x 0) + cond (j == first + n) x 0 ≡ x
    here e =
        let none = sum_none n (λ i. cond (j == first + i) x 0) (λ i lt. rw (ne_eqb j (first + i) (λ z. omega (arith, z, e, lt))) refl) in
        let last : cond (j == first + n) x 0 ≡ x = rw (eq-eqb j (first + n) e) refl in
        omega (arith, none, last)

    there : (j < first + n → sum_below n (λ i. cond (j == first + i) x 0) ≡ x) → j ≢ first + n →
        sum_below n (λ i. cond (j == first + i) x 0) + cond (j == first + n) x 0 ≡ x
    there ih ne =
        let rest = ih (omega (arith, ne, hi)) in
        let last : cond (j == first + n) x 0 ≡ 0 = rw (ne_eqb j (first + n) ne) refl in
        omega (arith, rest, last)

module _ {D : Type 0} (part : D → ℕ) where
  -- no part has more than all
  pub part_le : (p : ℕ) (number : D → ℕ) (ds : List D) → sum_in part p number ds ≤ sum_by number ds
  part_le p number ds = sum_by-le-sum_by (λ (d : D). cond (part d == p) (number d) 0) number ds (λ d. cond_le (part d == p) (number d))

  -- a part's sum with one more: its own, or another's
  pub sum_own : (p : ℕ) (number : D → ℕ) (ds : List D) (x : D) → part x ≡ p →
      sum_in part p number (ds ++ x ∷ []) ≡ sum_in part p number ds + number x
  sum_own p number ds x e =
      let last = sum_by_push (λ (d : D). cond (part d == p) (number d) 0) ds x in
      let own : cond (part x == p) (number x) 0 ≡ number x = rw (eq-eqb (part x) p e) refl in
      omega (arith, last, own)

  pub sum_other : (p : ℕ) (number : D → ℕ) (ds : List D) (x : D) → part x ≢ p →
      sum_in part p number (ds ++ x ∷ []) ≡ sum_in part p number ds
  sum_other p number ds x ne =
      let last = sum_by_push (λ (d : D). cond (part d == p) (number d) 0) ds x in
      let other : cond (part x == p) (number x) 0 ≡ 0 = rw (ne_eqb (part x) p ne) refl in
      omega (arith, last, other)

  -- each is of one of the parts
  abbrev pub AllWithin : ℕ → ℕ → List D → Type 0
  AllWithin first n [] = Unit {0}
  AllWithin first n (d ∷ ds) = (first ≤ part d) × (part d < first + n) × AllWithin first n ds

  pub within_more : (first n : ℕ) (ds : List D) (x : D) → AllWithin first n ds → first ≤ part x → part x < first + n →
      AllWithin first n (ds ++ x ∷ [])
  within_more first n [] x all lo hi = (lo, hi, tt)
  within_more first n (d ∷ ds) x all lo hi = (all.0, all.1, within_more first n ds x all.2 lo hi)

  -- then all parts have what there is
  pub all_parts : (first n : ℕ) (number : D → ℕ) (ds : List D) → AllWithin first n ds →
      sum_below n (λ i. sum_in part (first + i) number ds) ≡ sum_by number ds
  all_parts first n number [] w = sum_none n (λ i. 0) (λ i lt. refl)
  all_parts first n number (d ∷ ds) w =
      let share = λ (i : ℕ). cond (part d == first + i) (number d) 0 in
      let others = λ (i : ℕ). sum_in part (first + i) number ds in
      let split = sum_same n (λ i. sum_in part (first + i) number (d ∷ ds)) (λ i. share i + others i)
      (λ i lt. sum_by-cons (λ (e : D). cond (part e == first + i) (number e) 0) d ds) in
      let both = sum_add n share others in
      let one = hot n (part d) (number d) first w.0 w.1 in
      let rest = all_parts first n number ds w.2 in
      let first_one = sum_by-cons number d ds in
      omega (arith, split, both, one, rest, first_one)
