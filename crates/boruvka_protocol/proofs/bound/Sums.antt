-- Sums over nodes and over ports, of which one term changes or each is few.
use Rattle.std.proofs.Common.{◌≡◌, ◌≢◌, ℕ, zero, suc, ◌+◌, ◌*◌, ◌<◌, ◌≤◌, length, ⊎_elim, arith, suc-mul}
use Rattle.std.proofs.Math.Nat.{add-mul}
use Rattle.std.proofs.lemmas.Bool.{cases_eq}
use Rattle.peer_network.specs.Network.{Network, InNetwork, At}
use Rattle.peer_network.specs.Sums.{sum_below, sum_over_nodes, sum_over_ports}
use Rattle.peer_network.proofs.lemmas.Sums.{sum_none, sum_most, sum_one, sum_less}

-- where no term is above c
pub sum_bounded : (n c : ℕ) (f : ℕ → ℕ) → ((i : ℕ) → i < n → f i ≤ c) → sum_below n f ≤ n * c
sum_bounded zero c f le = omega arith
sum_bounded (suc n) c f le =
    let rest = sum_bounded n c f (λ i lt. le i (omega (arith, lt))) in
    let last = le n (omega arith) in
    omega (arith, rest, last, suc-mul n c)

-- where one term at most is there, which is 1 and leaves room for it, and where there is room for none
pub sum_of_one : (n m k : ℕ) (f : ℕ → ℕ) → ((i : ℕ) → i < n → 1 ≤ f i → (f i ≤ 1) × (suc m ≤ k)) →
    ((i j : ℕ) → i < n → j < n → 1 ≤ f i → 1 ≤ f j → i ≡ j) → m ≤ k → sum_below n f + m ≤ k
sum_of_one zero m k f few one room = omega (arith, room)
sum_of_one (suc n) m k f few one room = ⊎_elim
    (λ (e : f n ≡ 0).
    let rest = sum_of_one n m k f (λ i lt. few i (omega (arith, lt))) (λ i j lt lt'. one i j (omega (arith, lt)) (omega (arith, lt'))) room in
    omega (arith, rest, e))
    (λ ne.
    let some : 1 ≤ f n = positive (f n) ne in
    let here = few n (omega arith) some in
    let rest : sum_below n f ≡ 0 = sum_none n f (λ i lt. none i lt some) in
    omega (arith, here.0, here.1, rest))
    (cases_eq (f n) 0)
  where
    positive : (x : ℕ) → x ≢ 0 → 1 ≤ x
    positive zero ne = absurd (ne (omega arith))
    positive (suc x) ne = omega arith

    none : (i : ℕ) → i < n → 1 ≤ f n → f i ≡ 0
    none i lt some = ⊎_elim (λ (e : f i ≡ 0). e)
        (λ ne. let same = one i n (omega (arith, lt)) (omega arith) (positive (f i) ne) some in absurd (omega (arith, lt, same)))
        (cases_eq (f i) 0)

module _ (g : Network) where
  -- nodes
  pub nodes_bounded : (c : ℕ) (f : ℕ → ℕ) → ((v : ℕ) → InNetwork g v → f v ≤ c) → sum_over_nodes g f ≤ g.count * c
  nodes_bounded c f le =
      sum_bounded g.count c (λ i. f (suc i)) (λ i lt. le (suc i) (record { some = omega arith; node = omega (arith, lt) }))

  -- one node's number changes
  pub node_changes : (f h : ℕ → ℕ) (v : ℕ) → InNetwork g v → ((u : ℕ) → u ≢ v → f u ≡ h u) → sum_over_nodes g h + f v ≡ sum_over_nodes g f + h v
  node_changes f h zero here same = absurd (let low = here.some in omega (arith, low))
  node_changes f h (suc i) here same =
      sum_one g.count i (λ j. f (suc j)) (λ j. h (suc j)) (let high = here.node in omega (arith, high))
      (λ j ne. same (suc j) (λ e. ne (omega (arith, e))))

  -- ports
  -- no port's number is above c
  pub ports_bounded : (c : ℕ) (f : ℕ → ℕ → ℕ) → ((v p : ℕ) → At g v p → f v p ≤ c) →
      sum_over_ports g f ≤ sum_over_nodes g (λ v. length (g.ports v)) * c
  ports_bounded c f le = go g.count (λ v p low high lt. le v p (record { some = low; node = high; port = lt }))
    where
      go : (n : ℕ) → ((v p : ℕ) → 1 ≤ v → v ≤ n → p < length (g.ports v) → f v p ≤ c) →
          sum_below n (λ i. sum_below (length (g.ports (suc i))) (f (suc i))) ≤ sum_below n (λ i. length (g.ports (suc i))) * c
      go zero h = omega arith
      go (suc n) h =
          let rest = go n (λ v p low high. h v p low (omega (arith, high))) in
          let last = sum_bounded (length (g.ports (suc n))) c (f (suc n)) (λ p lt. h (suc n) p (omega arith) (omega arith) lt) in
          omega (arith, rest, last, add-mul (sum_below n (λ i. length (g.ports (suc i)))) (length (g.ports (suc n))) c)

  -- no number falls, and where d is 1 one rises
  pub ports_rise : (d : ℕ) (f h : ℕ → ℕ → ℕ) → d ≤ 1 → ((u q : ℕ) → At g u q → f u q ≤ h u q) →
      (1 ≤ d → (v : ℕ) × (p : ℕ) × At g v p × (suc (f v p) ≤ h v p)) → d + sum_over_ports g f ≤ sum_over_ports g h
  ports_rise zero f h few le some = omega (arith, all)
    where
      all : sum_over_ports g f ≤ sum_over_ports g h
      all = sum_most g.count _ _ (λ i lt.
          sum_most (length (g.ports (suc i))) (f (suc i)) (h (suc i))
          (λ p l. le (suc i) p (record { some = omega arith; node = omega (arith, lt); port = l })))
  ports_rise (suc d) f h few le some =
      let x = some (omega arith) in
      let more = rises x.0 x.1 x.2 x.3 in
      omega (arith, few, more)
    where
      rises : (v p : ℕ) → At g v p → suc (f v p) ≤ h v p → suc (sum_over_ports g f) ≤ sum_over_ports g h
      rises zero p at more = absurd (let low = at.some in omega (arith, low))
      rises (suc v) p at more =
          sum_less g.count v _ _ (let high = at.node in omega (arith, high))
          (λ i lt.
          sum_most (length (g.ports (suc i))) (f (suc i)) (h (suc i))
          (λ q l. le (suc i) q (record { some = omega arith; node = omega (arith, lt); port = l })))
          (sum_less (length (g.ports (suc v))) p (f (suc v)) (h (suc v)) at.port
          (λ q l. le (suc v) q (record { some = omega arith; node = at.node; port = l }))
          more)
