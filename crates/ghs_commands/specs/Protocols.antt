-- The protocols that a network follows, as a value: one, or of a sweep several, between commas.
use Rattle.std.specs.Prelude.{Bool, true, ◌&&◌, not, codes, eqb, List, [], ◌∷◌, map, Option, Some, None, is_some, unwrap_or}
use Rattle.std.specs.List.{list_all, list_any, slice_split}
use Rattle.std.specs.Str.{bytes_eq}
use Rattle.clap.specs.Words.{Text}
use Rattle.peer_trace.specs.Protocol.{protocol_named}
use Rattle.peer_trace.specs.declared.protocol.Protocol.{Protocol}
use Rattle.peer_trace.specs.declared.protocol.Protocol.TheVariants.{Ghs}

-- a value that isn't given, or the name of a protocol
abbrev pub is_protocol : Option Text → Bool
is_protocol None = true
is_protocol (Some name) = is_some (protocol_named name)

-- the names between the commas of a value
abbrev pub names_of : Text → List Text
names_of text = slice_split (λ b. eqb b 44) text

-- each is that of a protocol
abbrev pub are_known : List Text → Bool
are_known names = list_all (λ n. is_some (protocol_named n)) names

-- none stands twice
abbrev pub are_distinct : List Text → Bool
are_distinct [] = true
are_distinct (n ∷ ns) = not (list_any (λ m. bytes_eq m n) ns) && are_distinct ns

-- a value that isn't given, or one that names protocols, none of them twice
abbrev pub are_protocols : Option Text → Bool
are_protocols None = true
are_protocols (Some text) = are_known (names_of text) && are_distinct (names_of text)

-- a value that isn't given, or one that names GHS alone
abbrev pub are_ghs : Option Text → Bool
are_ghs None = true
are_ghs (Some text) = list_all (λ n. bytes_eq n (codes "ghs")) (names_of text)

-- the protocol of a name; a value names those that there are, or the words are refused
abbrev pub protocol_by : Text → Protocol
protocol_by name = unwrap_or (protocol_named name) Ghs

-- the protocols of the names of a value, in their order
abbrev pub protocols_of : Text → List Protocol
protocols_of text = map protocol_by (names_of text)
