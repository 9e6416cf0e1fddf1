-- The order of keys: it is total, and in a rising list a lesser key stands earlier.
use Rattle.std.proofs.Common.{◌≡◌, ◌<◌, ◌≤◌, ◌⊎◌, inl, inr, ⊎_elim, true, false, List, get_or, sym, ◌∙◌, ap, subst, arith}
use Rattle.std.specs.List.{Contains}
use Rattle.std.proofs.lemmas.Bool.{both_ways, cases_Bool, cases_eq, cases_lt}
use Rattle.std.proofs.lemmas.Bool.Decides.{nat_tests}
use Rattle.std.proofs.lemmas.List.{get_or_default}
use Rattle.ghs_graph.specs.declared.key.Key.{Key}
use Rattle.ghs_graph.specs.Key.{key_lt}
use Rattle.ghs_graph.specs.Links.{IsRising}
use Rattle.ghs_graph.proofs.lemmas.Keys.{lt_irreflexive, lt_asymmetric}
use Rattle.ghs_graph.proofs.lemmas.Joining.{Decided}

pub not_below_less : (j k m : Key) → key_lt j m ≡ false → key_lt k m ≡ true → key_lt j k ≡ false
not_below_less j k m h l = grind (arith, nat_tests)

pub less_through : (j k m : Key) → key_lt j k ≡ true → key_lt m k ≡ false → key_lt j m ≡ true
less_through j k m h l = grind (arith, nat_tests)

-- of two keys one is less, or they are one
pub key_cases : (j k : Key) → (key_lt j k ≡ true) ⊎ ((key_lt k j ≡ true) ⊎ (j ≡ k))
key_cases j k = ⊎_elim inl (λ f. inr (⊎_elim inl (λ g. inr (same f g)) (cases_Bool (key_lt k j)))) (cases_Bool (key_lt j k))
  where
    same : key_lt j k ≡ false → key_lt k j ≡ false → j ≡ k
    same f g =
        let weight : j.weight ≡ k.weight = grind (arith, nat_tests) in
        let a : j.a ≡ k.a = grind (arith, nat_tests) in
        let b : j.b ≡ k.b = grind (arith, nat_tests) in
        λ t. record { weight = weight t; a = a t; b = b t }

-- a lesser key stands earlier
pub stands_earlier : (ks : List Key) (j k : Key) → IsRising ks → (p : Contains ks j) → (q : Contains ks k) → key_lt j k ≡ true → p.0 < q.0
stands_earlier ks j k r p q less = ⊎_elim (λ lt. lt) (λ le. absurd (⊎_elim same (later le) (cases_eq q.0 p.0))) (cases_lt p.0 q.0)
  where
    at_p : get_or ks p.0 j ≡ j
    at_p = p.2

    at_q : get_or ks q.0 j ≡ k
    at_q = get_or_default ks q.0 j k q.1 ∙ q.2

    same : q.0 ≡ p.0 → ⊥
    same e =
        both_ways (key_lt k k) (lt_irreflexive k)
        (subst (λ (x : Key). key_lt x k ≡ true) (sym at_p ∙ ap (λ n. get_or ks n j) (sym e) ∙ at_q) less)

    later : q.0 ≤ p.0 → (q.0 ≡ p.0 → ⊥) → ⊥
    later le ne =
        both_ways (key_lt k j) (lt_asymmetric j k less)
        (subst (λ (x : Key). key_lt k x ≡ true) at_p
        (subst (λ (x : Key). key_lt x (get_or ks p.0 j) ≡ true) at_q (r q.0 p.0 j (omega (arith, le, ne)) p.1)))

pub keys_decided : (j k : Key) → Decided (j ≡ k)
keys_decided j k = ⊎_elim
    (λ less. inr (λ e. both_ways (key_lt k k) (lt_irreflexive k) (subst (λ (x : Key). key_lt x k ≡ true) e less)))
    (λ o. ⊎_elim (λ less. inr (λ e. both_ways (key_lt k k) (lt_irreflexive k) (subst (λ (x : Key). key_lt k x ≡ true) e less))) (λ e. inl e) o)
    (key_cases j k)
