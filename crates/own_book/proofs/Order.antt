-- Lists in which ports rise, and that have the same at each port.
use Rattle.std.proofs.Common.{◌≡◌, ◌⊎◌, inl, inr, ◌<◌, ◌≤◌, ◌∙◌, ◌==◌, ℕ, suc, Bool, true, false, not, ◌&&◌, List, [], ◌∷◌, length, get_or, refl, sym, ap, arith}
use Rattle.std.specs.List.{filter}
use Rattle.std.specs.List.Sorted.{IsNonDecreasingBy, IsStableByKey, ties}
use Rattle.std.specs.Ordering.{is_lt, nat_cmp}
use Rattle.std.proofs.lemmas.Bool.{cases_order, cond-false, cond-true, eq-eqb, le-ltb, lt-ltb, ne_eqb}
use Rattle.std.proofs.lemmas.List.Elements.{filter_agree}
use Rattle.own_book.specs.Sends.{SameAtPorts, Sending, at_port}

-- a port isn't above those of a list
abbrev IsLeast : ℕ → List Sending → Type 0
IsLeast p [] = Unit {0}
IsLeast p (s ∷ ss) = (p ≤ s.0) × IsLeast p ss

abbrev Rises : List Sending → Type 0
Rises [] = Unit {0}
Rises (s ∷ ss) = IsLeast s.0 ss × Rises ss

least : (p : ℕ) (ss : List Sending) → ((j : ℕ) (d : Sending) → j < length ss → p ≤ (get_or ss j d).0) → IsLeast p ss
least p [] h = tt
least p (s ∷ ss) h = (h 0 s (omega arith), least p ss (λ j d lt. h (suc j) d (omega arith)))

rises : (ss : List Sending) → IsNonDecreasingBy (λ (s : Sending). s.0) ss → Rises ss
rises [] h = tt
rises (s ∷ ss) h = (
  least s.0 ss (λ j d lt. h 0 (suc j) d (omega arith) (omega arith)),
  rises ss (λ i j d le lt. h (suc i) (suc j) d (omega arith) (omega arith)),
)

none_at : (p q : ℕ) (ss : List Sending) → p < q → IsLeast q ss → at_port p ss ≡ []
none_at p q [] lt h = refl
none_at p q (s ∷ ss) lt h =
    let other : s.0 ≡ p → ⊥ = λ e. (let above = h.0 in omega arith) in
    cond-false (s.0 == p) (s ∷ at_port p ss) (at_port p ss) (ne_eqb s.0 p other) ∙ none_at p q ss lt h.1

at_own : (p : ℕ) (s : Sending) (ss : List Sending) → s.0 ≡ p → at_port p (s ∷ ss) ≡ s ∷ at_port p ss
at_own p s ss e = cond-true (s.0 == p) (s ∷ at_port p ss) (at_port p ss) (eq-eqb s.0 p e)

-- the first port of a list is below no port of another one with the same at each port
not_below : (s : Sending) (ss us : List Sending) → at_port s.0 (s ∷ ss) ≡ at_port s.0 us → at_port s.0 us ≡ [] → ⊥
not_below s ss us e none = let first : s ∷ at_port s.0 ss ≡ [] = sym (at_own s.0 s ss refl) ∙ (e ∙ none) in cc

tail_by : (p : ℕ) (s u : Sending) (ss us : List Sending) (b : Bool) → (s.0 == p) ≡ b → s ≡ u → at_port p (s ∷ ss) ≡ at_port p (u ∷ us) →
    at_port p ss ≡ at_port p us
tail_by p s u ss us true at e same =
    let mine = cond-true (s.0 == p) (s ∷ at_port p ss) (at_port p ss) at in
    let other = cond-true (u.0 == p) (u ∷ at_port p us) (at_port p us) (ap (λ (x : Sending). x.0 == p) (sym e) ∙ at) in
    let both : s ∷ at_port p ss ≡ u ∷ at_port p us = sym mine ∙ (same ∙ other) in
    cc
tail_by p s u ss us false at e same =
    let mine = cond-false (s.0 == p) (s ∷ at_port p ss) (at_port p ss) at in
    let other = cond-false (u.0 == p) (u ∷ at_port p us) (at_port p us) (ap (λ (x : Sending). x.0 == p) (sym e) ∙ at) in
    sym mine ∙ (same ∙ other)

heads : (s u : Sending) (ss us : List Sending) → s.0 ≡ u.0 → SameAtPorts (s ∷ ss) (u ∷ us) → s ≡ u
heads s u ss us e same =
    let both : s ∷ at_port s.0 ss ≡ u ∷ at_port s.0 us = sym (at_own s.0 s ss refl) ∙ (same s.0 ∙ at_own s.0 u us (sym e)) in
    cc

ports : (s u : Sending) (ss us : List Sending) → Rises (s ∷ ss) → Rises (u ∷ us) → SameAtPorts (s ∷ ss) (u ∷ us) → s.0 ≡ u.0
ports s u ss us rs ru same =
    elim (cases_order s.0 u.0) [
      | inl e ↦ e
      | inr (inl lt) ↦ absurd (not_below s ss (u ∷ us) (same s.0) (none_at s.0 u.0 (u ∷ us) lt (omega arith, ru.0)))
      | inr (inr lt) ↦ absurd (not_below u us (s ∷ ss) (sym (same u.0)) (none_at u.0 s.0 (s ∷ ss) lt (omega arith, rs.0)))
    ]

one : (ss us : List Sending) → Rises ss → Rises us → SameAtPorts ss us → ss ≡ us
one [] [] rs ru same = refl
one [] (u ∷ us) rs ru same = absurd (not_below u us [] (sym (same u.0)) refl)
one (s ∷ ss) [] rs ru same = absurd (not_below s ss [] (same s.0) refl)
one (s ∷ ss) (u ∷ us) rs ru same =
    let head : s ≡ u = heads s u ss us (ports s u ss us rs ru same) same in
    let tail : ss ≡ us = one ss us rs.1 ru.1 (λ p. tail_by p s u ss us (s.0 == p) refl head (same p)) in
    cc

-- two lists in which ports rise are the same exactly where they have the same at each port
pub one_order : (ss us : List Sending) → IsNonDecreasingBy (λ (s : Sending). s.0) ss → IsNonDecreasingBy (λ (s : Sending). s.0) us →
    SameAtPorts ss us → ss ≡ us
one_order ss us hs hu same = one ss us (rises ss hs) (rises us hu) same

-- what a sort by ports keeps
ties_port : (a b : ℕ) → (not (is_lt (nat_cmp a b)) && not (is_lt (nat_cmp b a))) ≡ (b == a)
ties_port a b =
    elim (cases_order a b) [
      | inl e ↦ rw (le-ltb a b (omega arith), le-ltb b a (omega arith), eq-eqb a b e, eq-eqb b a (sym e)) refl
      | inr (inl lt) ↦ rw (lt-ltb a b lt, ne_eqb b a (λ e. omega arith)) refl
      | inr (inr lt) ↦ rw (le-ltb a b (omega arith), lt-ltb b a lt, ne_eqb a b (λ e. omega arith), ne_eqb b a (λ e. omega arith)) refl
    ]

pub same_from_stable : (old new : List Sending) → IsStableByKey (λ (s : Sending). s.0) nat_cmp old new → SameAtPorts new old
same_from_stable old new stable =
    λ p.
    let t = λ (s : Sending). ties (λ (x y : Sending). is_lt (nat_cmp x.0 y.0)) (p, []) s in
    let by_port = λ (s : Sending). s.0 == p in
    let agree : (s : Sending) → t s ≡ by_port s = λ s. ties_port p s.0 in
    sym (filter_agree t by_port agree new) ∙ (stable (p, []) ∙ filter_agree t by_port agree old)
