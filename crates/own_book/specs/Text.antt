-- The text of a book.
use Rattle.std.specs.Prelude.{ℕ, codes, ◌++◌, List, [], ◌∷◌}
use Rattle.std.specs.List.{flat_map}
use Rattle.own_book.specs.Entry.{Entry}

-- `QUESTION = ANSWER`
abbrev pub line_text : List ℕ → List ℕ → List ℕ
line_text question answer = question ++ codes " = " ++ answer

abbrev pub entry_text : Entry → List ℕ
entry_text e = line_text e.question e.answer ++ 10 ∷ []

-- a line for each entry
abbrev pub book_text : List Entry → List ℕ
book_text entries = flat_map entry_text entries
