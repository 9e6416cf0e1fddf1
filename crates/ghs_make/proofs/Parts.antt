-- Nodes cut into parts, none of which is empty.
use Rattle.std.proofs.Common.{◌≡◌, ◌∙◌, ℕ, zero, suc, ◌+◌, ◌-◌, ◌*◌, ◌/◌, ◌<◌, ◌≤◌, List, [], ◌∷◌, ◌++◌, add-one, ap, arith}
use Rattle.std.proofs.Math.Nat.{div-mul-le_self, div-le_of_le-mul, mul-le-mul_right}
use Rattle.std.proofs.lemmas.Nat.{le-div}
use Rattle.ghs_make.specs.Ends.{firsts, part_start}

pub firsts_more : (f : ℕ → ℕ) (k : ℕ) → firsts f (k + 1) ≡ firsts f k ++ f k ∷ []
firsts_more f k = ap (firsts f) (add-one k)

-- the next part begins further on
pub part_some : (c d i : ℕ) → 0 < d → d ≤ c → part_start c d i < part_start c d (i + 1)
part_some c d i some fits =
    let below : i * c / d * d ≤ i * c = div-mul-le_self (i * c) d in
    let next : suc (i * c / d) * d ≤ (i + 1) * c = omega (arith, below) in
    le-div (suc (i * c / d)) ((i + 1) * c) d some next

-- no part goes beyond the nodes
pub part_within : (c d i : ℕ) → i ≤ d → part_start c d i ≤ c
part_within c d i le =
    div-le_of_le-mul d (mul-le-mul_right c le)
