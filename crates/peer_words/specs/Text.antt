-- Values, and messages that carry them, as text.
use Rattle.std.specs.Prelude.{ℕ, Bool, true, false, Option, Some, None, List, [], ◌∷◌, ◌++◌, codes, decimal}
use Rattle.std.specs.List.{flat_map}
use Rattle.ghs_graph.specs.declared.key.Key.{Key}
use Rattle.peer_words.specs.declared.value.Said.{Said}
use Rattle.peer_words.specs.declared.value.Value.{Value}
use Rattle.peer_words.specs.declared.value.Value.TheVariants.{Number, Port, Link, Links, Best, Word, Flag}
use Rattle.peer_words.specs.declared.value.Saying.{Saying}

-- where there is no value
abbrev pub dash : List ℕ
dash = codes "-"

-- `WEIGHT:SMALLER-LARGER`
unfoldable pub key_text : Key → List ℕ
key_text k = decimal k.weight ++ codes ":" ++ decimal k.a ++ codes "-" ++ decimal k.b

abbrev pub key_or_dash : Option Key → List ℕ
key_or_dash None = dash
key_or_dash (Some k) = key_text k

-- the keys of links, between commas
unfoldable pub next_key : Key → List ℕ
next_key k = codes "," ++ key_text k

abbrev pub keys_text : List Key → List ℕ
keys_text [] = dash
keys_text (k ∷ ks) = key_text k ++ flat_map next_key ks

abbrev pub number_or_dash : Option ℕ → List ℕ
number_or_dash None = dash
number_or_dash (Some p) = decimal p

-- `PORT@KEY`: the key isn't always that of the port, since it may have been reported
abbrev pub best_text : Option (ℕ × Key) → List ℕ
best_text None = dash
best_text (Some b) = decimal b.0 ++ codes "@" ++ key_text b.1

abbrev pub yes_or_no : Bool → List ℕ
yes_or_no true = codes "yes"
yes_or_no false = codes "no"

abbrev pub value_text : Value → List ℕ
value_text (Number n) = decimal n
value_text (Port p) = number_or_dash p
value_text (Link k) = key_or_dash k
value_text (Links ks) = keys_text ks
value_text (Best b) = best_text b
value_text (Word w) = w
value_text (Flag b) = yes_or_no b

unfoldable pub behind_comma : Said → List ℕ
behind_comma s = codes "," ++ value_text s.value

-- what a message carries, in brackets; nothing where it carries nothing
unfoldable pub in_brackets : List Said → List ℕ
in_brackets [] = []
in_brackets (x ∷ xs) = codes "(" ++ value_text x.value ++ flat_map behind_comma xs ++ codes ")"

-- `KIND(VALUE,VALUE)`
unfoldable pub message_text : Saying → List ℕ
message_text s = s.kind ++ in_brackets s.carried
