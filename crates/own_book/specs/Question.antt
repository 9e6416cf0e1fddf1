-- Questions, and what each asks for.
use Rattle.std.specs.Prelude.{ℕ, Bool, codes, cond, List, [], ◌∷◌, Option, Some, None, Result, Ok, Err}
use Rattle.std.specs.List.{list_all}
use Rattle.std.specs.Str.{bytes_eq}
use Rattle.own_book.specs.Parts.{cut_at, parts_at}
use Rattle.own_book.specs.Words.{is_key, is_message, is_number, is_state}
use Rattle.own_book.specs.declared.fault.LineFault.{LineFault}
use Rattle.own_book.specs.declared.fault.LineFault.TheVariants.{BadLine, Number}
use Rattle.own_book.specs.declared.question.Asked.{Asked}
use Rattle.own_book.specs.declared.question.Asked.TheVariants.{Greeting, Opening, Wake, Take}

-- the fault where this isn't so, and otherwise what comes next
abbrev pub wants : {A : Type 0} → Bool → LineFault → Result A LineFault → Result A LineFault
wants holds fault next = cond holds next (Err fault)

-- `1`
abbrev pub greeting_asked : List ℕ → Result Asked LineFault
greeting_asked rest = wants (bytes_eq rest (codes "1")) BadLine (Ok Greeting)

-- `NODE KEY ..`
abbrev pub opening_asked : List (List ℕ) → Result Asked LineFault
opening_asked [] = Err BadLine
opening_asked (node ∷ keys) = wants (is_number node) Number (wants (list_all is_key keys) BadLine (Ok Opening))

-- `NODE STATE`
abbrev pub wake_asked : List (List ℕ) → Result Asked LineFault
wake_asked (node ∷ state ∷ []) = wants (is_number node) Number (wants (is_state state) BadLine (Ok Wake))
wake_asked _ = Err BadLine

-- `NODE PORT MESSAGE STATE`
abbrev pub take_asked : List (List ℕ) → Result Asked LineFault
take_asked (node ∷ port ∷ message ∷ state ∷ []) =
    wants (is_number node) Number
    (wants (is_number port) Number
    (wants (is_message message) BadLine
    (wants (is_state state) BadLine (Ok Take))))
take_asked _ = Err BadLine

-- the first word says which question it is
abbrev pub asked_by : Option (List ℕ × List ℕ) → Result Asked LineFault
asked_by None = Err BadLine
asked_by (Some (word, rest)) =
    cond (bytes_eq word (codes "own")) (greeting_asked rest)
    (cond (bytes_eq word (codes "open")) (opening_asked (parts_at 32 rest))
    (cond (bytes_eq word (codes "wake")) (wake_asked (parts_at 32 rest))
    (cond (bytes_eq word (codes "take")) (take_asked (parts_at 32 rest)) (Err BadLine))))

-- what a question asks for, or why it is none
abbrev pub asked : List ℕ → Result Asked LineFault
asked question = asked_by (cut_at 32 question)
