-- Values, and messages that carry them, as members of JSON.
use Rattle.std.specs.Prelude.{ℕ, Bool, true, false, ◌==◌, if◌then◌else◌, Option, Some, None, List, [], ◌∷◌, ◌++◌, codes, decimal}
use Rattle.std.specs.List.{flat_map}
use Rattle.ghs_graph.specs.declared.key.Key.{Key}
use Rattle.peer_words.specs.declared.value.Said.{Said}
use Rattle.peer_words.specs.declared.value.Value.{Value}
use Rattle.peer_words.specs.declared.value.Value.TheVariants.{Number, Port, Link, Links, Best, Word, Flag}
use Rattle.peer_words.specs.declared.value.Saying.{Saying}
use Rattle.peer_words.specs.Text.{key_text}

-- where there is no value
abbrev pub null : List ℕ
null = codes "null"

-- a letter within a string: a quote and a backslash stand behind a backslash
abbrev pub escape : ℕ → List ℕ
escape b = if b == 34 then (92 ∷ 34 ∷ []) else (if b == 92 then (92 ∷ 92 ∷ []) else (b ∷ []))

unfoldable pub escaped : List ℕ → List ℕ
escaped t = flat_map escape t

-- a string whose letters need no escape, or have it
unfoldable pub quoted : List ℕ → List ℕ
quoted t = codes "\"" ++ t ++ codes "\""

-- a member of an object: what stands before it, its name, and its value
unfoldable pub member : List ℕ → List ℕ → List ℕ → List ℕ
member lead name value = lead ++ codes "\"" ++ name ++ codes "\":" ++ value

-- a member that isn't the first
abbrev pub next : List ℕ → List ℕ → List ℕ
next name value = member (codes ",") name value

abbrev pub number_or_null : Option ℕ → List ℕ
number_or_null None = null
number_or_null (Some p) = decimal p

abbrev pub key_or_null : Option Key → List ℕ
key_or_null None = null
key_or_null (Some k) = quoted (key_text k)

-- the keys of links, as a list
unfoldable pub next_key : Key → List ℕ
next_key k = codes "," ++ quoted (key_text k)

abbrev pub keys_within : List Key → List ℕ
keys_within [] = []
keys_within (k ∷ ks) = quoted (key_text k) ++ flat_map next_key ks

unfoldable pub keys_json : List Key → List ℕ
keys_json ks = codes "[" ++ keys_within ks ++ codes "]"

-- a port and a word
unfoldable pub pair : ℕ → List ℕ → List ℕ
pair p t = codes "[" ++ decimal p ++ codes "," ++ quoted t ++ codes "]"

abbrev pub best_or_null : Option (ℕ × Key) → List ℕ
best_or_null None = null
best_or_null (Some b) = pair b.0 (key_text b.1)

abbrev pub truth : Bool → List ℕ
truth true = codes "true"
truth false = codes "false"

abbrev pub value_json : Value → List ℕ
value_json (Number n) = decimal n
value_json (Port p) = number_or_null p
value_json (Link k) = key_or_null k
value_json (Links ks) = keys_json ks
value_json (Best b) = best_or_null b
value_json (Word w) = quoted (escaped w)
value_json (Flag b) = truth b

-- a value behind a comma and its name
abbrev pub said_member : Said → List ℕ
said_member s = next s.name (value_json s.value)

-- the kind, behind what stands before it, and what the message carries
unfoldable pub message_members : List ℕ → Saying → List ℕ
message_members lead s = member lead (codes "kind") (quoted s.kind) ++ flat_map said_member s.carried
