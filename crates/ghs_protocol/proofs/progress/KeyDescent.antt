-- Induction over the order of keys.
use Rattle.std.proofs.Common.{◌≡◌, ℕ, zero, suc, ◌<◌, true, refl, ◌∙◌, ⊎_elim, arith}
use Rattle.std.proofs.lemmas.Bool.{cases_lt}
use Rattle.std.proofs.lemmas.Bool.Decides.{nat_tests}
use Rattle.ghs_graph.specs.declared.key.Key.{Key}
use Rattle.ghs_graph.specs.Key.{key_lt}

-- where the lesser key is less
data Less (j k : Key) : Type 0 where
  By_weight : j.weight < k.weight → Less j k
  By_a : j.weight ≡ k.weight → j.a < k.a → Less j k
  By_b : j.weight ≡ k.weight → j.a ≡ k.a → j.b < k.b → Less j k

less : (j k : Key) → key_lt j k ≡ true → Less j k
less j k h =
    ⊎_elim (λ lt. By_weight lt) (λ ge.
    let e : j.weight ≡ k.weight = grind (arith, nat_tests) in
    ⊎_elim (λ lt. By_a e lt) (λ ge'.
    let e' : j.a ≡ k.a = grind (arith, nat_tests) in
    By_b e e' (grind (arith, nat_tests)))
    (cases_lt j.a k.a))
    (cases_lt j.weight k.weight)

module _ (P : Key → Type 0) (step : (k : Key) → ((j : Key) → key_lt j k ≡ true → P j) → P k) where
  by_b : (n m : ℕ) →
      ((j : Key) → j.weight < n → P j) →
      ((j : Key) → j.weight ≡ n → j.a < m → P j) →
      (z : ℕ) → (k : Key) → k.weight ≡ n →
      k.a ≡ m →
      k.b < z →
      P k
  by_b n m w a zero k e f lt = absurd (omega (arith, lt))
  by_b n m w a (suc z) k e f lt = step k (λ j h. go (by_b n m w a z) j (less j k h))
    where
      go : ((k : Key) → k.weight ≡ n → k.a ≡ m → k.b < z → P k) → (j : Key) → Less j k → P j
      go r j (By_weight x) = w j (omega (arith, x, e))
      go r j (By_a x y) = a j (x ∙ e) (omega (arith, y, f))
      go r j (By_b x y t) = r j (x ∙ e) (y ∙ f) (omega (arith, t, lt))

  by_a : (n : ℕ) → ((j : Key) → j.weight < n → P j) → (y : ℕ) → (k : Key) → k.weight ≡ n → k.a < y → P k
  by_a n w zero k e lt = absurd (omega (arith, lt))
  by_a n w (suc y) k e lt = by_b n k.a w (λ j d l. by_a n w y j d (omega (arith, l, lt))) (suc k.b) k e refl (omega arith)

  by_weight : (x : ℕ) → (k : Key) → k.weight < x → P k
  by_weight zero k lt = absurd (omega (arith, lt))
  by_weight (suc x) k lt = by_a k.weight (λ j l. by_weight x j (omega (arith, l, lt))) (suc k.a) k refl (omega arith)

  pub key_descent : (k : Key) → P k
  key_descent k = by_weight (suc k.weight) k (omega arith)
