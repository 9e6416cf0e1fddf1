-- Whether a value is what it was.
use Rattle.std.specs.Prelude.{ℕ, Bool, true, false, not, ◌&&◌, ◌==◌, Option, Some, None}
use Rattle.std.specs.Str.{bytes_eq}
use Rattle.ghs_graph.specs.declared.key.Key.{Key}
use Rattle.ghs_graph.specs.Key.{key_lt}
use Rattle.peer_words.specs.declared.value.Value.{Value}
use Rattle.peer_words.specs.declared.value.Value.TheVariants.{Number, Port, Link, Best, Word, Flag}

abbrev pub is_same_port : Option ℕ → Option ℕ → Bool
is_same_port (Some p) (Some q) = p == q
is_same_port None None = true
is_same_port _ _ = false

-- neither is below the other
abbrev pub is_same_key : Key → Key → Bool
is_same_key k l = not (key_lt k l) && not (key_lt l k)

abbrev pub is_same_link : Option Key → Option Key → Bool
is_same_link (Some k) (Some l) = is_same_key k l
is_same_link None None = true
is_same_link _ _ = false

abbrev pub is_same_best : Option (ℕ × Key) → Option (ℕ × Key) → Bool
is_same_best (Some b) (Some c) = (b.0 == c.0) && is_same_key b.1 c.1
is_same_best None None = true
is_same_best _ _ = false

abbrev pub is_same_flag : Bool → Bool → Bool
is_same_flag true b = b
is_same_flag false b = not b

-- of one sort, and the same; lists of links, which messages alone carry, are never called so
abbrev pub is_same_value : Value → Value → Bool
is_same_value (Number a) (Number b) = a == b
is_same_value (Port p) (Port q) = is_same_port p q
is_same_value (Link k) (Link l) = is_same_link k l
is_same_value (Best b) (Best c) = is_same_best b c
is_same_value (Word v) (Word w) = bytes_eq v w
is_same_value (Flag a) (Flag b) = is_same_flag a b
is_same_value _ _ = false
