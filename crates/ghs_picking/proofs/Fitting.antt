-- The bound on laps fits in 64 bits.
use Rattle.std.proofs.Common.{ℕ, ◌+◌, ◌*◌, ◌^◌, ◌<◌, ◌≤◌, ⊎_elim, arith}
use Rattle.std.proofs.Math.Nat.{mul-le-mul_left}
use Rattle.std.proofs.Math.Pow.{pow_mono}
use Rattle.std.proofs.lemmas.Bool.{cases_lt}
use Rattle.ghs_graph.specs.Bound.{IsBound}

pub laps_fit : (n e b : ℕ) → n ≤ 1048576 → e ≤ 8388608 → IsBound n e b → 2 * (b + n) < 2 ^ 63
laps_fit n e b nodes links is =
    let k = is.levels in
    let low : k ≤ 20 = ⊎_elim
    (λ (lt : 20 < k). absurd (let x = is.log2.at_most in omega (arith, pow_mono {i = 21} {j = k} lt, x, nodes)))
    (λ (le : k ≤ 20). le) (cases_lt 20 k) in
    let some = mul-le-mul_left n low in
    let value = is.bound in
    omega (arith, some, nodes, links, value)
