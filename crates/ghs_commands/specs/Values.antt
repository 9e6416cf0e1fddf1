-- The values of options.
use Rattle.std.specs.Prelude.{ℕ, ◌+◌, ◌≤◌, ◌<◌, Bool, true, ◌&&◌, not, codes, nat_le, cond, eqb, List, Option, Some, None, is_some}
use Rattle.std.specs.List.{after_first, before_first, list_any}
use Rattle.std.specs.Str.{all_ascii_digits, bytes_eq}
use Rattle.std.specs.Str.Parse.{digits_value}
use Rattle.clap.specs.Words.{Text}
use Rattle.ghs_lines.specs.Fields.{is_nonempty}
use Rattle.ghs_make.specs.Kind.{kind_named}
use Rattle.ghs_make.specs.Weights.{weights_named}
use Rattle.ghs_commands.specs.declared.values.Seeds.{Seeds}
use Rattle.ghs_commands.specs.declared.values.TheConstants.{MOST_SEEDS}

-- the number that a value is: digits alone, of a value in this range
abbrev pub number_in : ℕ → ℕ → Text → Option ℕ
number_in low high text =
    let n = digits_value 10 text in
    cond (is_nonempty text && all_ascii_digits text && nat_le low n && nat_le n high) (Some n) None

-- a value that isn't given, or one of these
abbrev pub is_among : List Text → Option Text → Bool
is_among choices None = true
is_among choices (Some text) = list_any (λ choice. bytes_eq text choice) choices

-- `-`, which names standard input
abbrev pub is_dash : Text → Bool
is_dash text = bytes_eq text (codes "-")

-- two inputs of which one at most is standard input: the first is where it is `-`, the second also where it isn't given
abbrev pub are_apart : Option Text → Option Text → Bool
are_apart None other = true
are_apart (Some text) None = not (is_dash text)
are_apart (Some text) (Some other) = not (is_dash text && is_dash other)

-- a value that isn't given, or a number in this range
abbrev pub is_number : ℕ → ℕ → Option Text → Bool
is_number low high None = true
is_number low high (Some text) = is_some (number_in low high text)

-- seeds from the first to the last, both included: some, and not too many
pub record AreSeeds (s : Seeds) : Type 0 where
  pub some : s.first ≤ s.last
  pub few : s.last < s.first + MOST_SEEDS

-- those between two numbers
abbrev pub seeds_between : Option ℕ → Option ℕ → Option Seeds
seeds_between (Some a) (Some b) = cond (nat_le a b && nat_le (b + 1) (a + MOST_SEEDS)) (Some (record { first = a; last = b })) None
seeds_between _ _ = None

-- what stands before the first dot of a text, and what behind it
abbrev pub before_dot : Text → Text
before_dot text = before_first (λ b. eqb b 46) text

abbrev pub behind_dot : Text → Text
behind_dot text = after_first (λ b. eqb b 46) text

-- the seeds that a value names: a number, two dots, and a number
abbrev pub seeds_of : Text → Option Seeds
seeds_of text =
    let rest = behind_dot text in
    cond (is_nonempty (before_dot rest)) None
    (seeds_between (number_in 0 18446744073709551615 (before_dot text)) (number_in 0 18446744073709551615 (behind_dot rest)))

-- a value that isn't given, or one that names seeds
abbrev pub is_range : Option Text → Bool
is_range None = true
is_range (Some text) = is_some (seeds_of text)

-- a value that isn't given, or the name of a kind of networks
abbrev pub is_kind : Option Text → Bool
is_kind None = true
is_kind (Some text) = is_some (kind_named text)

-- a value that isn't given, or the name of weights
abbrev pub are_weights : Option Text → Bool
are_weights None = true
are_weights (Some text) = is_some (weights_named text)
