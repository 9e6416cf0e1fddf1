-- Percentiles, computed from the definition.
use Rattle.std.proofs.Common.{◌≡◌, [], ◌∷◌, refl}
use Rattle.peer_sweep.specs.Summary.{percentile}

quarter-of-four : percentile 25 (10 ∷ 20 ∷ 30 ∷ 40 ∷ []) ≡ 10
quarter-of-four = refl

quarter-of-five : percentile 25 (10 ∷ 20 ∷ 30 ∷ 40 ∷ 50 ∷ []) ≡ 20
quarter-of-five = refl

middle-of-four : percentile 50 (10 ∷ 20 ∷ 30 ∷ 40 ∷ []) ≡ 20
middle-of-four = refl

middle-of-five : percentile 50 (10 ∷ 20 ∷ 30 ∷ 40 ∷ 50 ∷ []) ≡ 30
middle-of-five = refl

most-of-four : percentile 95 (10 ∷ 20 ∷ 30 ∷ 40 ∷ []) ≡ 40
most-of-four = refl

each-of-one : percentile 25 (10 ∷ []) ≡ 10
each-of-one = refl
