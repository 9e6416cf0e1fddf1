-- What a list with one more element in front contains, and a filtered one.
use Rattle.std.proofs.Common.{◌≡◌, ◌⊎◌, inl, inr, ⊎_elim, Bool, true, List, [], ◌∷◌, subst, sym, arith}
use Rattle.std.specs.List.{Contains, filter}
use Rattle.std.proofs.lemmas.Bool.{cases_Bool, both_ways}
use Rattle.std.proofs.lemmas.List.Elements.{Contains-push, Contains-push_cases, Contains-append_left, Contains-append_right, Contains-append_cases}

pub nothing_in : {X : Type 0} (x : X) → Contains [] x → ⊥
nothing_in x h = absurd (omega (arith, h.1))

pub first_in : {X : Type 0} (x : X) (xs : List X) → Contains (x ∷ xs) x
first_in x xs = Contains-append_left (x ∷ []) xs x (Contains-push [] x)

pub later_in : {X : Type 0} (x y : X) (xs : List X) → Contains xs y → Contains (x ∷ xs) y
later_in x y xs h = Contains-append_right (x ∷ []) xs y h

pub in_cases : {X : Type 0} (x y : X) (xs : List X) → Contains (x ∷ xs) y → Contains xs y ⊎ (x ≡ y)
in_cases x y xs h = ⊎_elim (λ a. ⊎_elim (λ n. absurd (nothing_in y n)) inr (Contains-push_cases [] x y a)) inl (Contains-append_cases (x ∷ []) xs y h)

pub in_filter : {X : Type 0} (test : X → Bool) (xs : List X) (x : X) → Contains (filter test xs) x → Contains xs x × (test x ≡ true)
in_filter test [] x h = absurd (nothing_in x h)
in_filter {X} test (y ∷ ys) x h =
    let later : Contains (filter test ys) x → Contains (y ∷ ys) x × (test x ≡ true) =
    λ o. let r = in_filter test ys x o in (later_in y x ys r.0, r.1) in
    ⊎_elim
    (λ e.
    ⊎_elim later (λ q. (subst (λ (z : X). Contains (y ∷ ys) z) q (first_in y ys), subst (λ (z : X). test z ≡ true) q e))
    (in_cases y x (filter test ys) (rw e at h)))
    (λ e. later (rw e at h))
    (cases_Bool (test y))

pub filter_has : {X : Type 0} (test : X → Bool) (xs : List X) (x : X) → Contains xs x → test x ≡ true → Contains (filter test xs) x
filter_has test [] x h t = absurd (nothing_in x h)
filter_has {X} test (y ∷ ys) x h t = ⊎_elim
    (λ e.
    rw e
    (⊎_elim (λ o. later_in y x (filter test ys) (filter_has test ys x o t))
    (λ q. subst (λ (z : X). Contains (y ∷ filter test ys) z) q (first_in y (filter test ys))) (in_cases y x ys h)))
    (λ e.
    rw e
    (⊎_elim (λ o. filter_has test ys x o t) (λ q. absurd (both_ways (test y) e (subst (λ (z : X). test z ≡ true) (sym q) t)))
    (in_cases y x ys h)))
    (cases_Bool (test y))
