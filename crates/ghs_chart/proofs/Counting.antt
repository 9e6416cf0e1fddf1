-- How many values stand in a column.
use Rattle.std.proofs.Common.{◌≡◌, ℕ, zero, suc, ◌<◌, ◌≤◌, List, arith, ⊎_elim, ◌++◌, ◌∙◌, append_assoc, ap, subst, ◌+◌}
use Rattle.std.proofs.lemmas.Bool.{cases_eq}
use Rattle.ghs_chart.specs.Strip.{bar, bars, count_in, most_of}

-- no column below has more than the most
pub within_most : (n bound : ℕ) (values : List ℕ) (k : ℕ) → k < n → count_in bound values k ≤ most_of n bound values
within_most zero bound values k lt = absurd (omega (arith, lt))
within_most (suc n) bound values k lt = ⊎_elim
    (λ (same : k ≡ n). rw same (omega arith))
    (λ other. let less = within_most n bound values k (omega (arith, lt, other)) in omega (arith, less))
    (cases_eq k n)

-- with the bar of the next column a text has one bar more
pub one_bar_more : (n bound : ℕ) (values : List ℕ) (most count : ℕ) (head old new : List ℕ) → old ≡ head ++ bars n bound values most →
    count ≡ count_in bound values n → new ≡ old ++ bar n count most → new ≡ head ++ bars (n + 1) bound values most
one_bar_more n bound values most count head old new before is last =
    let up : suc n ≡ n + 1 = omega arith in
    subst (λ m. new ≡ head ++ bars m bound values most) up
    (last ∙ ap (λ k. old ++ bar n k most) is ∙ ap (λ t. t ++ bar n (count_in bound values n) most) before
    ∙ append_assoc head (bars n bound values most) (bar n (count_in bound values n) most))
