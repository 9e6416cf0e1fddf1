-- Lists in which each element comes before every later one.
use Rattle.std.proofs.Common.{◌≡◌, ◌≢◌, suc, ◌+◌, ⊎_elim, Bool, true, false, List, [], ◌∷◌, length, refl, sym, ◌∙◌, ap, subst, arith}
use Rattle.std.specs.List.{AllPairs, Contains, filter}
use Rattle.ghs_graph.proofs.lemmas.Members.{nothing_in, first_in, later_in, in_cases}

-- a filter that all pass
filter_whole : {X : Type 0} (test : X → Bool) (xs : List X) → ((x : X) → Contains xs x → test x ≡ true) → filter test xs ≡ xs
filter_whole test [] all = refl
filter_whole {X} test (x ∷ xs) all =
    rw (all x (first_in x xs)) (ap (λ (ys : List X). x ∷ ys) (filter_whole test xs (λ y h. all y (later_in x y xs h))))

module _ {X : Type 0} (R : X → X → Type 0) (irreflexive : (x : X) → R x x → ⊥) (asymmetric : (x y : X) → R x y → R y x → ⊥) where
  before_later : (x : X) (xs : List X) → AllPairs R (x ∷ xs) → (y : X) → Contains xs y → R x y
  before_later x xs r y h = subst (λ (z : X). R x z) h.2 (r 0 (suc h.0) y (omega arith) (let l = h.1 in omega arith))

  rising_tail : (x : X) (xs : List X) → AllPairs R (x ∷ xs) → AllPairs R xs
  rising_tail x xs r i j d lt jl = r (suc i) (suc j) d (omega arith) (omega arith)

  -- the first elements of two such lists with the same elements are equal
  same_first : (x y : X) (xs ys : List X) → AllPairs R (x ∷ xs) → AllPairs R (y ∷ ys) → Contains (y ∷ ys) x → Contains (x ∷ xs) y → x ≡ y
  same_first x y xs ys r q x_in y_in = ⊎_elim
      (λ h. ⊎_elim
      (λ g. absurd (asymmetric x y (before_later x xs r y g) (before_later y ys q x h)))
      (λ e. e)
      (in_cases x y xs y_in))
      (λ e. sym e)
      (in_cases y x ys x_in)

  -- the rest lacks the first element
  rest_without : (x : X) (xs : List X) → AllPairs R (x ∷ xs) → Contains xs x → ⊥
  rest_without x xs r h = irreflexive x (before_later x xs r x h)

  rest_in : (x : X) (xs ys : List X) → AllPairs R (x ∷ xs) → ((z : X) → Contains (x ∷ xs) z → Contains (x ∷ ys) z) → (z : X) → Contains xs z
      → Contains ys z
  rest_in x xs ys r f z h =
      ⊎_elim (λ o. o) (λ e. absurd (rest_without x xs r (subst (λ (w : X). Contains xs w) (sym e) h))) (in_cases x z ys (f z (later_in x z xs h)))

  -- such lists with the same elements are equal
  pub same_rising : (xs ys : List X) → AllPairs R xs → AllPairs R ys → ((z : X) → Contains xs z → Contains ys z)
      → ((z : X) → Contains ys z → Contains xs z) → xs ≡ ys
  same_rising [] [] r q f g = refl
  same_rising [] (y ∷ ys) r q f g = absurd (nothing_in y (g y (first_in y ys)))
  same_rising (x ∷ xs) [] r q f g = absurd (nothing_in x (f x (first_in x xs)))
  same_rising (x ∷ xs) (y ∷ ys) r q f g =
      let e : x ≡ y = same_first x y xs ys r q (f x (first_in x xs)) (g y (first_in y ys)) in
      let into : (z : X) → Contains (x ∷ xs) z → Contains (x ∷ ys) z = λ z h. rw e (f z h) in
      let from : (z : X) → Contains (x ∷ ys) z → Contains (x ∷ xs) z = λ z h. g z (rw e at h) in
      let risen : AllPairs R (x ∷ ys) = rw e q in
      ap (λ (zs : List X). x ∷ zs) (same_rising xs ys (rising_tail x xs r) (rising_tail y ys q) (rest_in x xs ys r into) (rest_in x ys xs risen from))
      ∙ ap (λ (z : X). z ∷ ys) e

  -- without one of its elements such a list is shorter by one
  pub length-without : (test : X → Bool) (s : X) → test s ≡ false → ((x : X) → x ≢ s → test x ≡ true) → (xs : List X) → AllPairs R xs → Contains xs s
      → length (filter test xs) + 1 ≡ length xs
  length-without test s fails others [] r h = absurd (nothing_in s h)
  length-without test s fails others (x ∷ xs) r h = ⊎_elim
      (λ o.
      let differs : x ≢ s = λ e. rest_without x xs r (subst (λ (z : X). Contains xs z) (sym e) o) in
      let rest : length (filter test xs) + 1 ≡ length xs = length-without test s fails others xs (rising_tail x xs r) o in
      rw (others x differs) (omega arith))
      (λ e.
      let left : test x ≡ false = ap test e ∙ fails in
      let whole : filter test xs ≡ xs = filter_whole test xs
      (λ y o. others y (λ q. rest_without x xs r (subst (λ (z : X). Contains xs z) (q ∙ sym e) o))) in
      rw (left, whole) (omega arith))
      (in_cases x s xs h)
