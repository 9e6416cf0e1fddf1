-- Powers of two in plans.
use Rattle.std.proofs.Common.{◌≡◌, ℕ, zero, suc, ◌-◌, ◌*◌, ◌<◌, ◌≤◌, ◌^◌, ⊎_elim, arith}
use Rattle.std.proofs.Math.Pow.{pow_mono}
use Rattle.std.proofs.lemmas.Bool.{cases_lt}
use Rattle.ghs_make.specs.Plan.{IsPlan}
use Rattle.ghs_make.specs.declared.plan.Plan.{Plan}

pub levels_few : (p : Plan) → IsPlan p → p.levels < 21
levels_few p h = ⊎_elim (λ few. few)
    (λ many.
    let high : 2 ^ 21 ≤ 2 ^ p.levels = pow_mono many in
    let low = h.levels.at_most in
    let few = h.few in
    absurd (omega arith))
    (cases_lt p.levels 21)

pub quarter_within : (p : Plan) → IsPlan p → 2 ^ (p.levels - 2) ≤ p.nodes
quarter_within p h =
    let less : p.levels - 2 ≤ p.levels = omega arith in
    let quarter : 2 ^ (p.levels - 2) ≤ 2 ^ p.levels = pow_mono less in
    omega (arith, quarter, h.levels.at_most)

pub half_within : (p : Plan) → IsPlan p → 2 ^ (p.levels - 1) ≤ p.nodes
half_within p h =
    let less : p.levels - 1 ≤ p.levels = omega arith in
    let half : 2 ^ (p.levels - 1) ≤ 2 ^ p.levels = pow_mono less in
    omega (arith, half, h.levels.at_most)

pub lt_pow : (l : ℕ) → l < 2 ^ l
lt_pow zero = omega arith
lt_pow (suc l) =
    let less = lt_pow l in
    let twice : 2 ^ suc l ≡ 2 * 2 ^ l = omega arith in
    omega (arith, less, twice)
