-- Numbers with one root, one after another.
use Rattle.std.proofs.Common.{◌≡◌, ℕ, ◌+◌, ◌<◌, ◌≤◌, List, [], ◌∷◌, ◌++◌, length, get_or, subst, ⊎_elim, arith, length-append}
use Rattle.std.specs.List.{Contains}
use Rattle.std.proofs.lemmas.Bool.{cases_lt}
use Rattle.std.proofs.lemmas.List.{get_or_default, get_or_push, get_or_append_left}
use Rattle.std.proofs.lemmas.List.Elements.{Contains-append_left, Contains-append_right, Contains-append_cases}
use Rattle.ghs_graph.proofs.lemmas.Members.{nothing_in, first_in, in_cases}
use Rattle.ghs_core.specs.Marked.{HaveRoot}

pub none_alike : (ls : List ℕ) (label : ℕ) (us : List ℕ) → us ≡ [] → HaveRoot ls 1 label us
none_alike ls label us e = rw e (record {
  rising = λ k lt. absurd (omega (arith, lt));
  has = λ u h. absurd (nothing_in u h);
  all = λ u lo hi t. absurd (omega (arith, lo, hi));
})

-- one number more: it has the root, or it hasn't
pub alike_more : (ls : List ℕ) (u label : ℕ) (us : List ℕ) → 1 ≤ u → get_or ls u 0 ≡ label → HaveRoot ls u label us →
    HaveRoot ls (u + 1) label (us ++ u ∷ [])
alike_more ls u label us some t a = record { rising = rising; has = has; all = all }
  where
    below : (k : ℕ) → k < length us → get_or us k 0 < u
    below k lt = (a.has (get_or us k 0) (k, lt, get_or_default us k (get_or us k 0) 0 lt)).1

    rising : (k : ℕ) → k + 1 < length (us ++ u ∷ []) → get_or (us ++ u ∷ []) k 0 < get_or (us ++ u ∷ []) (k + 1) 0
    rising k lt = ⊎_elim
        (λ (l : k + 1 < length us). rw (get_or_append_left us (u ∷ []) 0 k (omega (arith, l)), get_or_append_left us (u ∷ []) 0 (k + 1) l)
        (a.rising k l))
        (λ (l : length us ≤ k + 1). let e : length us ≡ k + 1 = omega (arith, length-append us (u ∷ []), lt, l) in
        rw (get_or_append_left us (u ∷ []) 0 k (omega (arith, e)), get_or_push us u 0 (k + 1) e) (below k (omega (arith, e))))
        (cases_lt (k + 1) (length us))

    has : (x : ℕ) → Contains (us ++ u ∷ []) x → (1 ≤ x) × (x < u + 1) × (get_or ls x 0 ≡ label)
    has x h = ⊎_elim
        (λ l. let b = a.has x l in (b.0, omega (arith, b.1), b.2))
        (λ l. ⊎_elim (λ n. absurd (nothing_in x n))
        (λ (e : u ≡ x). subst (λ (y : ℕ). (1 ≤ y) × (y < u + 1) × (get_or ls y 0 ≡ label)) e (some, omega arith, t)) (in_cases u x [] l))
        (Contains-append_cases us (u ∷ []) x h)

    all : (x : ℕ) → 1 ≤ x → x < u + 1 → get_or ls x 0 ≡ label → Contains (us ++ u ∷ []) x
    all x lo hi same = ⊎_elim
        (λ (l : x < u). Contains-append_left us (u ∷ []) x (a.all x lo l same))
        (λ (l : u ≤ x). let e : u ≡ x = omega (arith, l, hi) in Contains-append_right us (u ∷ []) x (rw e (first_in x [])))
        (cases_lt x u)

pub alike_less : (ls : List ℕ) (u label : ℕ) (us : List ℕ) → (get_or ls u 0 ≡ label → ⊥) → HaveRoot ls u label us → HaveRoot ls (u + 1) label us
alike_less ls u label us other a = record {
  rising = a.rising;
  has = λ x h. let b = a.has x h in (b.0, omega (arith, b.1), b.2);
  all = λ x lo hi same. ⊎_elim (λ (l : x < u). a.all x lo l same)
      (λ (l : u ≤ x). let e : x ≡ u = omega (arith, l, hi) in absurd (other (rw e at same))) (cases_lt x u);
}
