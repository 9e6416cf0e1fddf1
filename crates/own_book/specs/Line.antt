-- The lines of a book.
use Rattle.std.specs.Prelude.{ℕ, Bool, false, cond, drop, length, map, nat_le, ◌&&◌, ◌==◌, List, [], ◌∷◌, Option, Some, None, Result, Ok, Err}
use Rattle.std.specs.List.{list_all}
use Rattle.std.specs.Option.{is_some, option_map}
use Rattle.ghs_lines.specs.Lines.{lines_of}
use Rattle.own_book.specs.Answer.{saying}
use Rattle.own_book.specs.Question.{asked}
use Rattle.own_book.specs.Words.{is_printable}
use Rattle.own_book.specs.declared.fault.LineFault.{LineFault}
use Rattle.own_book.specs.declared.fault.LineFault.TheVariants.{BadLine, TooLong}
use Rattle.own_book.specs.declared.line.TheConstants.{LINE_BYTES}
use Rattle.own_book.specs.declared.question.Asked.{Asked}

-- what a line says: nothing, this answer to this question, or nothing for this fault
pub data Line : Type 0 where
  passed : Line
  says : (question answer : List ℕ) → Line
  bad : LineFault → Line

-- ` = ` stands in front
abbrev pub begins_with_sign : List ℕ → Bool
begins_with_sign (a ∷ b ∷ c ∷ more) = a == 32 && b == 61 && c == 32
begins_with_sign _ = false

-- what is in front of the first ` = `, and what is behind it
abbrev pub cut_at_sign : List ℕ → Option (List ℕ × List ℕ)
cut_at_sign [] = None
cut_at_sign (b ∷ bs) =
    cond (begins_with_sign (b ∷ bs)) (Some ([], drop 3 (b ∷ bs))) (option_map (λ cut. (b ∷ cut.0, cut.1)) (cut_at_sign bs))

-- an answer to what the question asks for
abbrev pub paired : List ℕ → List ℕ → Result Asked LineFault → Line
paired question answer (Err fault) = bad fault
paired question answer (Ok asked) = cond (is_some (saying asked answer)) (says question answer) (bad BadLine)

-- `QUESTION = ANSWER`
abbrev pub line_parts : Option (List ℕ × List ℕ) → Line
line_parts None = bad BadLine
line_parts (Some (question, answer)) = paired question answer (asked question)

-- what a line says
abbrev pub meaning : List ℕ → Line
meaning line = cond (nat_le (length line) LINE_BYTES) (cond (list_all is_printable line) (line_parts (cut_at_sign line)) (bad BadLine)) (bad TooLong)

-- what the lines of a text say
abbrev pub meanings : List ℕ → List Line
meanings text = map meaning (lines_of text)
