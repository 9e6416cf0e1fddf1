-- Two seeds as a value.
use Rattle.std.specs.Prelude.{ℕ, Bool, true, eqb, Option, Some, None, is_some}
use Rattle.std.specs.List.{after_first, before_first}
use Rattle.clap.specs.Words.{Text}
use Rattle.ghs_commands.specs.declared.two_seeds.TwoSeeds.{TwoSeeds}
use Rattle.ghs_commands.specs.Values.{number_in}

-- two numbers as seeds, where there are both
abbrev pub both : Option ℕ → Option ℕ → Option TwoSeeds
both (Some a) (Some b) = Some (record { first = a; second = b })
both _ _ = None

-- what stands before the first comma of a text, and what behind it
abbrev pub before_comma : Text → Text
before_comma text = before_first (λ b. eqb b 44) text

abbrev pub behind_comma : Text → Text
behind_comma text = after_first (λ b. eqb b 44) text

-- the two seeds that a value names: a number, a comma, and a number
abbrev pub two_seeds_of : Text → Option TwoSeeds
two_seeds_of text = both (number_in 0 18446744073709551615 (before_comma text)) (number_in 0 18446744073709551615 (behind_comma text))

-- a value that isn't given, or one that names two seeds
abbrev pub are_two : Option Text → Bool
are_two None = true
are_two (Some text) = is_some (two_seeds_of text)
