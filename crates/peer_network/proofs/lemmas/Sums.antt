-- Sums over places and over ports.
use Rattle.std.proofs.Common.{◌≡◌, ◌≢◌, ℕ, zero, suc, ◌+◌, ◌<◌, ◌≤◌, length, refl, sym, subst, ⊎_elim, arith}
use Rattle.std.proofs.lemmas.Bool.{cases_eq}
use Rattle.peer_network.specs.Network.{Network, At}
use Rattle.peer_network.specs.Sums.{sum_below, sum_over_ports}

pub sum_same : (n : ℕ) (f h : ℕ → ℕ) → ((i : ℕ) → i < n → f i ≡ h i) → sum_below n f ≡ sum_below n h
sum_same zero f h e = refl
sum_same (suc n) f h e = let here = e n (omega arith) in let rest = sum_same n f h (λ i lt. e i (omega arith)) in omega (arith, here, rest)

pub sum_none : (n : ℕ) (f : ℕ → ℕ) → ((i : ℕ) → i < n → f i ≡ 0) → sum_below n f ≡ 0
sum_none zero f z = refl
sum_none (suc n) f z = let here = z n (omega arith) in let rest = sum_none n f (λ i lt. z i (omega arith)) in omega (arith, here, rest)

pub sum_most : (n : ℕ) (f h : ℕ → ℕ) → ((i : ℕ) → i < n → f i ≤ h i) → sum_below n f ≤ sum_below n h
sum_most zero f h e = omega arith
sum_most (suc n) f h e = let here = e n (omega arith) in let rest = sum_most n f h (λ i lt. e i (omega arith)) in omega (arith, here, rest)

pub sum_add : (n : ℕ) (f h : ℕ → ℕ) → sum_below n (λ i. f i + h i) ≡ sum_below n f + sum_below n h
sum_add zero f h = refl
sum_add (suc n) f h = let rest = sum_add n f h in omega (arith, rest)

-- one term of a sum changes
pub sum_one : (n j : ℕ) (f h : ℕ → ℕ) → j < n → ((i : ℕ) → i ≢ j → f i ≡ h i) → sum_below n h + f j ≡ sum_below n f + h j
sum_one zero j f h lt e = absurd (omega arith)
sum_one (suc n) j f h lt e = ⊎_elim here (before (λ k. sum_one n j f h k e)) (cases_eq j n)
  where
    here : j ≡ n → sum_below n h + h n + f j ≡ sum_below n f + f n + h j
    here x = let rest = sum_same n f h (λ i k. e i (omega arith)) in rw x (omega (arith, rest))

    before : (j < n → sum_below n h + f j ≡ sum_below n f + h j) → j ≢ n → sum_below n h + h n + f j ≡ sum_below n f + f n + h j
    before ih ne = let rest = ih (omega arith) in let last = e n (λ z. ne (sym z)) in omega (arith, rest, last)

-- no term is more than the sum
pub term_le : (n j : ℕ) (f : ℕ → ℕ) → j < n → f j ≤ sum_below n f
term_le zero j f lt = absurd (omega arith)
term_le (suc n) j f lt = ⊎_elim (λ (e : j ≡ n). rw e (omega arith)) (λ ne. let z = term_le n j f (omega arith) in omega (arith, z)) (cases_eq j n)

module _ (g : Network) where
  -- the number at one port changes
  pub ports_one : (f h : ℕ → ℕ → ℕ) (v p : ℕ) → At g v p → ((a b : ℕ) → ((a ≡ v) × (b ≡ p) → ⊥) → f a b ≡ h a b) →
      sum_over_ports g h + f v p ≡ sum_over_ports g f + h v p
  ports_one f h zero p at e = absurd (let lo = at.some in omega arith)
  ports_one f h (suc i) p at e = omega (arith, outer, inner)
    where
      inner : sum_below (length (g.ports (suc i))) (h (suc i)) + f (suc i) p ≡ sum_below (length (g.ports (suc i))) (f (suc i)) + h (suc i) p
      inner = sum_one (length (g.ports (suc i))) p (f (suc i)) (h (suc i)) at.port (λ b ne. e (suc i) b (λ z. ne z.1))

      outer :
          sum_over_ports g h + sum_below (length (g.ports (suc i))) (f (suc i)) ≡
          sum_over_ports g f + sum_below (length (g.ports (suc i))) (h (suc i))
      outer =
          sum_one g.count i (λ a. sum_below (length (g.ports (suc a))) (f (suc a))) (λ a. sum_below (length (g.ports (suc a))) (h (suc a)))
          (let k = at.node in omega arith)
          (λ a ne. sum_same _ (f (suc a)) (h (suc a)) (λ b lt. e (suc a) b (λ z. ne (let y = z.0 in omega arith))))

  pub ports_none : (f : ℕ → ℕ → ℕ) → ((v p : ℕ) → f v p ≡ 0) → sum_over_ports g f ≡ 0
  ports_none f z = sum_none g.count _ (λ i lt. sum_none (length (g.ports (suc i))) (f (suc i)) (λ p l. z (suc i) p))

  pub ports_same : (f h : ℕ → ℕ → ℕ) → ((v p : ℕ) → At g v p → f v p ≡ h v p) → sum_over_ports g f ≡ sum_over_ports g h
  ports_same f h e =
      sum_same g.count _ _
      (λ i lt.
      sum_same (length (g.ports (suc i))) (f (suc i)) (h (suc i))
      (λ p l. e (suc i) p (record { some = omega arith; node = omega arith; port = l })))

  pub ports_add : (f h : ℕ → ℕ → ℕ) → sum_over_ports g (λ v p. f v p + h v p) ≡ sum_over_ports g f + sum_over_ports g h
  ports_add f h = go g.count
    where
      go : (n : ℕ) →
          sum_below n (λ i. sum_below (length (g.ports (suc i))) (λ p. f (suc i) p + h (suc i) p)) ≡
          sum_below n (λ i. sum_below (length (g.ports (suc i))) (f (suc i))) + sum_below n
          (λ i. sum_below (length (g.ports (suc i))) (h (suc i)))
      go zero = refl
      go (suc n) = omega (arith, go n, sum_add (length (g.ports (suc n))) (f (suc n)) (h (suc n)))

pub sum_few : (n : ℕ) (f : ℕ → ℕ) → ((i : ℕ) → f i ≤ 1) → sum_below n f ≤ n
sum_few zero f e = omega arith
sum_few (suc n) f e = let a = sum_few n f e in let b = e n in omega (arith, a, b)

-- a sum of which no term is more, and one is less
pub sum_less : (n j : ℕ) (f h : ℕ → ℕ) → j < n → ((i : ℕ) → i < n → f i ≤ h i) → suc (f j) ≤ h j → suc (sum_below n f) ≤ sum_below n h
sum_less zero j f h lt e s = absurd (omega arith)
sum_less (suc n) j f h lt e s = ⊎_elim here (before (λ l. sum_less n j f h l (λ i k. e i (omega arith)) s)) (cases_eq j n)
  where
    here : j ≡ n → suc (sum_below n f + f n) ≤ sum_below n h + h n
    here x =
        let rest = sum_most n f h (λ i l. e i (omega arith)) in
        let last : suc (f n) ≤ h n = subst (λ y. suc (f y) ≤ h y) x s in omega (arith, rest, last)

    before : (j < n → suc (sum_below n f) ≤ sum_below n h) → j ≢ n → suc (sum_below n f + f n) ≤ sum_below n h + h n
    before ih ne = let rest = ih (omega arith) in let last = e n (omega arith) in omega (arith, rest, last)

-- a node stands in a sum by the number below its own
pub node_before : (v : ℕ) → 1 ≤ v → (i : ℕ) × (v ≡ suc i)
node_before zero lo = absurd (omega (arith, lo))
node_before (suc i) lo = (i, refl)
