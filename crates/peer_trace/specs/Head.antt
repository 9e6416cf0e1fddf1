-- The head of a stored run, which names its protocol.
use Rattle.std.specs.Prelude.{ℕ, Bool, false, codes, cond, map, List, [], ◌∷◌, Option, Some, None}
use Rattle.std.specs.Str.{bytes_eq}
use Rattle.ghs_lines.specs.Fields.{fields_of}
use Rattle.ghs_lines.specs.Lines.{lines_of}
use Rattle.peer_trace.specs.Mark.{Mark, marked_by, without_mark}
use Rattle.peer_trace.specs.Protocol.{is_in_heads, name_of}
use Rattle.peer_trace.specs.declared.protocol.Protocol.{Protocol}
use Rattle.peer_trace.specs.declared.protocol.Protocol.TheVariants.{Ghs, Boruvka, Echo, Gather}

-- the fields of a head: `trace COUNT` of GHS, and of another protocol its name between the two
abbrev pub head_fields : Protocol → List ℕ → List (List ℕ)
head_fields protocol count = codes "trace" ∷ cond (is_in_heads protocol) (name_of protocol ∷ count ∷ []) (count ∷ [])

-- the protocol that a head names so
abbrev pub named_so : List ℕ → Option Protocol
named_so name =
    cond (bytes_eq name (name_of Boruvka)) (Some Boruvka)
    (cond (bytes_eq name (name_of Echo)) (Some Echo)
    (cond (bytes_eq name (name_of Gather)) (Some Gather) None))

-- the protocol that the fields behind a `trace` name
abbrev pub named_behind : List (List ℕ) → Option Protocol
named_behind (count ∷ []) = Some Ghs
named_behind (name ∷ count ∷ []) = named_so name
named_behind _ = None

-- the protocol that a line names as the head: none where its fields are no head's
abbrev pub named_by : List (List ℕ) → Option Protocol
named_by [] = None
named_by (first ∷ more) = cond (bytes_eq first (codes "trace")) (named_behind more) None

-- the lines of a text, each as its fields
abbrev pub fields_in : List ℕ → List (List (List ℕ))
fields_in text = map fields_of (lines_of text)

-- the head of lines: the first that has fields
abbrev pub first_fields : List (List (List ℕ)) → List (List ℕ)
first_fields [] = []
first_fields ([] ∷ more) = first_fields more
first_fields ((first ∷ others) ∷ more) = first ∷ others

-- the protocol that the head of a text names
abbrev pub protocol_in : List ℕ → Option Protocol
protocol_in text = named_by (first_fields (fields_in text))

-- the mark that the head of a text has, where it is a run of a user's own protocol
abbrev pub mark_in : List ℕ → Option Mark
mark_in text = marked_by (first_fields (fields_in text))

-- whether a head that names this has a name in it
abbrev pub has_name : Option Protocol → Bool
has_name None = false
has_name (Some protocol) = is_in_heads protocol

-- fields without the second
abbrev pub without_second : List (List ℕ) → List (List ℕ)
without_second (first ∷ name ∷ more) = first ∷ more
without_second fields = fields

-- the fields of a head that names this protocol, without the name
abbrev pub plain_head : Option Protocol → List (List ℕ) → List (List ℕ)
plain_head named fields = cond (has_name named) (without_second fields) fields

-- the fields of a head with this mark, or that names this protocol, without both
abbrev pub plain_fields : Option Mark → Option Protocol → List (List ℕ) → List (List ℕ)
plain_fields (Some mark) named fields = without_mark fields
plain_fields None named fields = plain_head named fields

abbrev pub plain_of : List (List ℕ) → List (List ℕ)
plain_of fields = plain_fields (marked_by fields) (named_by fields) fields

-- the same lines, but that in the head no name and no mark stands
abbrev pub plain_lines : List (List (List ℕ)) → List (List (List ℕ))
plain_lines [] = []
plain_lines ([] ∷ more) = [] ∷ plain_lines more
plain_lines ((first ∷ others) ∷ more) = plain_of (first ∷ others) ∷ more
