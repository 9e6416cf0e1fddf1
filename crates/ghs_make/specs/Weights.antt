-- How links weigh.
use Rattle.std.specs.Prelude.{ℕ, codes, cond, List, Option, Some, None}
use Rattle.std.specs.Str.{bytes_eq}
use Rattle.ghs_make.specs.declared.weights.Weights.{Weights}
use Rattle.ghs_make.specs.declared.weights.Weights.TheVariants.{Random, Rising, Falling, Equal}

abbrev pub weights_name : Weights → List ℕ
weights_name Random = codes "random"
weights_name Rising = codes "rising"
weights_name Falling = codes "falling"
weights_name Equal = codes "equal"

-- those of a name
abbrev pub weights_named : List ℕ → Option Weights
weights_named name =
    cond (bytes_eq name (codes "random")) (Some Random)
    (cond (bytes_eq name (codes "rising")) (Some Rising)
    (cond (bytes_eq name (codes "falling")) (Some Falling)
    (cond (bytes_eq name (codes "equal")) (Some Equal) None)))
