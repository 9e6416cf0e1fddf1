-- What a page is told of a book's protocol, besides its words.
use Rattle.std.specs.Prelude.{ℕ, Bool, not, ◌==◌, codes, find, slice_index_or, unwrap_or, ◌++◌, List, [], ◌∷◌}
use Rattle.std.specs.List.{list_any}
use Rattle.own_book.specs.Entry.{Entry}
use Rattle.own_rules.specs.Texts.{Text, kinds_of, name_of, names_of, types_of}
use Rattle.own_rules.specs.declared.looks.TheConstants.{LOOK, NAMELESS}
use Rattle.peer_words.specs.Json.{member, next, quoted}
use Rattle.peer_words.specs.Looks.{Looks}

-- where there is little room a letter stands for a kind: the first of its name that stands for none before it; its first where all do
abbrev pub is_free : Text → ℕ → Bool
is_free used letter = not (list_any (λ b. letter == b) used)

abbrev pub letter_of : Text → Text → ℕ
letter_of used name = unwrap_or (find (is_free used) name) (slice_index_or name 0 45)

-- a kind has the same name everywhere, its letter, and its types, by which the page knows its bits
unfoldable pub look_of : Text → ℕ → Text → Text
look_of name letter types =
    member [] (codes "name") (quoted name)
    ++ next (codes "short") (quoted name)
    ++ next (codes "letter") (quoted (letter ∷ []))
    ++ codes ",\"has\":[]"
    ++ next (codes "types") (quoted types)

-- those of names, where some letters stand for others
abbrev pub looks_from : Text → Text → List Text → List Text
looks_from kinds used [] = []
looks_from kinds used (name ∷ names) =
    look_of name (letter_of used name) (types_of kinds name) ∷ looks_from kinds (used ++ letter_of used name ∷ []) names

abbrev pub looks_in : Text → List Text
looks_in kinds = looks_from kinds [] (names_of kinds)

-- of a kind, by its number; a book that names none has one kind without a name
abbrev pub kind_look : List Entry → ℕ → Text
kind_look book k = slice_index_or (looks_in (kinds_of book)) k NAMELESS.now

-- `ghs: ` and the name that the greeting gives the protocol
unfoldable pub titled : Text → Text
titled name = codes "ghs: " ++ name ++ codes " (own)"

abbrev pub title_of : List Entry → Text
title_of book = titled (name_of book)

abbrev pub looks_of : List Entry → Looks
looks_of book = record { title = title_of book; kind = kind_look book; rest = LOOK.now }
