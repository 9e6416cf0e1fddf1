-- Which ports a change touches.
use Rattle.std.proofs.Common.{◌≡◌, ◌≢◌, ◌⊎◌, ℕ, ◌+◌, ◌<◌, ◌≤◌, ◌==◌, Bool, true, false, refl, ⊎_elim, arith}
use Rattle.std.proofs.lemmas.Bool.{ne_eqb}

-- no port but one
pub other_ports : (q p : ℕ) → (p < q) ⊎ (q + 1 ≤ p) → (p == q) ≡ false
other_ports q p h = ne_eqb p q (λ z. ⊎_elim (λ lt. absurd (omega (arith, lt, z))) (λ le. absurd (omega (arith, le, z))) h)

-- none, where the one isn't there
pub not_there : (q p ports : ℕ) → ports ≤ q → p < ports → (p == q) ≡ false
not_there q p ports le lt = ne_eqb p q (λ z. absurd (omega (arith, le, lt, z)))
