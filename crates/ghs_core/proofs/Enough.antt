-- Numbers of which each stands among others: they are no more than these.
use Rattle.std.proofs.Common.{◌≡◌, ◌≢◌, ℕ, suc, ◌≤◌, List, [], ◌∷◌, length, refl, sym, ◌∙◌, ap, ⊎_elim, arith}
use Rattle.std.specs.List.{AllPairs, Contains}
use Rattle.ghs_graph.proofs.lemmas.Members.{nothing_in, first_in, later_in, in_cases}

-- a list without one of its numbers
without_one : (ys : List ℕ) (x : ℕ) → Contains ys x →
    (zs : List ℕ) × (length ys ≡ suc (length zs)) × ((z : ℕ) → Contains ys z → z ≢ x → Contains zs z)
without_one [] x h = absurd (nothing_in x h)
without_one (y ∷ ys) x h = ⊎_elim
    (λ later.
    let r = without_one ys x later in
    (y ∷ r.0, ap suc r.1, λ z c ne. ⊎_elim (λ l. later_in y z r.0 (r.2 z l ne)) (λ e. rw e (first_in z r.0)) (in_cases y z ys c)))
    (λ (e : y ≡ x). (ys, refl, λ z c ne. ⊎_elim (λ l. l) (λ q. absurd (ne (sym q ∙ e))) (in_cases y z ys c)))
    (in_cases y x ys h)

pub no_more : (xs ys : List ℕ) → AllPairs (λ x y. x ≢ y) xs → ((x : ℕ) → Contains xs x → Contains ys x) → length xs ≤ length ys
no_more [] ys apart within = omega arith
no_more (x ∷ xs) ys apart within =
    let r = without_one ys x (within x (first_in x xs)) in
    let rest : length xs ≤ length r.0 =
    no_more xs r.0 (λ i j d lt l. apart (suc i) (suc j) d (omega (arith, lt)) (omega (arith, l)))
    (λ z c. r.2 z (within z (later_in x z xs c)) (λ e. apart 0 (suc c.0) z (omega arith) (let l = c.1 in omega (arith, l)) (sym (c.2 ∙ e))))
    in
    let one = r.1 in
    omega (arith, rest, one)
