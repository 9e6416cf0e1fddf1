-- Lists read at a place.
use Rattle.std.proofs.Common.{◌≡◌, ℕ, zero, suc, ◌+◌, ◌<◌, ◌≤◌, Bool, true, false, Some, None, List, [], ◌∷◌, ◌++◌, length, map, get_or, refl, ◌∙◌, ap, ap₂, arith, ⊎_elim, zero-add, suc-add}
use Rattle.std.specs.List.{slice_get, find, list_any, range_with_len}
use Rattle.std.proofs.lemmas.Bool.{cases_lt, or_right}
use Rattle.std.proofs.lemmas.Option.{same_Some}

module _ {X : Type 0} where
  pub get_left : (xs ys : List X) (i : ℕ) → i < length xs → slice_get (xs ++ ys) i ≡ slice_get xs i
  get_left [] ys i lt = absurd (omega arith)
  get_left (x ∷ xs) ys zero lt = refl
  get_left (x ∷ xs) ys (suc i) lt = get_left xs ys i (omega arith)

  pub get_right : (xs ys : List X) (i : ℕ) → slice_get (xs ++ ys) (length xs + i) ≡ slice_get ys i
  get_right [] ys i = ap (slice_get ys) (zero-add i)
  get_right (x ∷ xs) ys i = rw suc-add (get_right xs ys i)

  pub get_some : (xs : List X) (i : ℕ) → i < length xs → (x : X) × (slice_get xs i ≡ Some x)
  get_some [] i lt = absurd (omega arith)
  get_some (x ∷ xs) zero lt = (x, refl)
  get_some (x ∷ xs) (suc i) lt = get_some xs i (omega arith)

  pub map_get : {Y : Type 0} (f : X → Y) (d : Y) (xs : List X) (i : ℕ) (x : X) → slice_get xs i ≡ Some x → get_or (map f xs) i d ≡ f x
  map_get f d [] i x e = cc
  map_get f d (y ∷ ys) zero x e = ap f (same_Some y x e)
  map_get f d (y ∷ ys) (suc i) x e = map_get f d ys i x e

  module _ (p : X → Bool) where
    pub map_at : (xs : List X) (i : ℕ) (x : X) → slice_get xs i ≡ Some x → get_or (map p xs) i false ≡ p x
    map_at xs i x e = map_get p false xs i x e

    pub map_of : (xs : List X) (bs : List Bool) → length bs ≡ length xs →
        ((i : ℕ) (x : X) → slice_get xs i ≡ Some x → get_or bs i false ≡ p x) → bs ≡ map p xs
    map_of [] [] e h = refl
    map_of [] (b ∷ bs) e h = absurd (omega arith)
    map_of (x ∷ xs) [] e h = absurd (omega arith)
    map_of (x ∷ xs) (b ∷ bs) e h = ap₂ (λ c cs. c ∷ cs) (h 0 x refl) (map_of xs bs (omega arith) (λ i y k. h (suc i) y k))

    pub any_at : (xs : List X) (i : ℕ) (x : X) → slice_get xs i ≡ Some x → p x ≡ true → list_any p xs ≡ true
    any_at [] i x e h = cc
    any_at (y ∷ ys) zero x e h = rw (ap p (same_Some y x e) ∙ h) refl
    any_at (y ∷ ys) (suc i) x e h = rw (any_at ys i x e h) (or_right (p y) true refl)

    pub none_any : (xs : List X) → ((i : ℕ) (x : X) → slice_get xs i ≡ Some x → p x ≡ false) → list_any p xs ≡ false
    none_any [] h = refl
    none_any (x ∷ xs) h = rw (h 0 x refl) (none_any xs (λ i y k. h (suc i) y k))

    pub find_at : (xs : List X) (i : ℕ) (x : X) → slice_get xs i ≡ Some x → p x ≡ true →
        ((j : ℕ) (y : X) → j < i → slice_get xs j ≡ Some y → p y ≡ false) → find p xs ≡ Some x
    find_at [] i x e h none = cc
    find_at (y ∷ ys) zero x e h none = let z = same_Some y x e in rw (ap p z ∙ h) (ap Some z)
    find_at (y ∷ ys) (suc i) x e h none = rw (none 0 y (omega arith) refl) (find_at ys i x e h (λ j z lt k. none (suc j) z (omega arith) k))

    pub find_none : (xs : List X) → ((j : ℕ) (y : X) → slice_get xs j ≡ Some y → p y ≡ false) → find p xs ≡ None
    find_none [] none = refl
    find_none (y ∷ ys) none = rw (none 0 y refl) (find_none ys (λ j z k. none (suc j) z k))

-- the first number that passes
module _ (p : ℕ → Bool) where
  pub first_found : (a n v : ℕ) → a ≤ v → v < a + n → ((u : ℕ) → a ≤ u → u < v → p u ≡ false) → p v ≡ true → find p (range_with_len a n) ≡ Some v
  first_found a zero v le lt none here = absurd (omega arith)
  first_found a (suc n) v le lt none here = ⊎_elim
      (λ (above : a < v). rw (none a (omega arith) above)
      (first_found (a + 1) n v (omega arith) (omega arith) (λ u lo hi. none u (omega arith) hi) here))
      (λ (same : v ≤ a). let e : v ≡ a = omega arith in rw e (rw (rw e at here) refl))
      (cases_lt a v)

  pub none_found : (a n : ℕ) → ((u : ℕ) → a ≤ u → u < a + n → p u ≡ false) → find p (range_with_len a n) ≡ None
  none_found a zero none = refl
  none_found a (suc n) none = rw (none a (omega arith) (omega arith)) (none_found (a + 1) n (λ u lo hi. none u (omega arith) (omega arith)))
