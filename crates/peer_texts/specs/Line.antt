-- What the lines of a trace's text say.
use Rattle.std.specs.Prelude.{ℕ, codes, cond, map, List, [], ◌∷◌}
use Rattle.std.specs.Str.{bytes_eq}
use Rattle.ghs_lines.specs.Fields.{fields_of}
use Rattle.ghs_lines.specs.Lines.{lines_of}
use Rattle.ghs_lines.specs.Numbers.{number_of}
use Rattle.peer_texts.specs.declared.line.Line.{Line}
use Rattle.peer_texts.specs.declared.line.Line.TheVariants.{Passed, Malformed, Head, Wake, Take}
use Rattle.peer_texts.specs.declared.trace.TheConstants.{EVENT_LIMIT}

-- what the fields behind a `trace` say
abbrev pub head_of : List (List ℕ) → Line
head_of (count ∷ []) = Head (number_of EVENT_LIMIT count)
head_of _ = Malformed

-- what the fields behind a `wake` say
abbrev pub wake_of : List (List ℕ) → Line
wake_of (node ∷ []) = Wake (number_of 4294967295 node)
wake_of _ = Malformed

-- what the fields behind a `take` say
abbrev pub take_of : List (List ℕ) → Line
take_of (node ∷ port ∷ []) = Take (number_of 4294967295 node) (number_of 4294967295 port)
take_of _ = Malformed

-- what fields say: nothing, the head, an event, or nothing that is known
abbrev pub meaning_of : List (List ℕ) → Line
meaning_of [] = Passed
meaning_of (first ∷ more) =
    cond (bytes_eq first (codes "trace")) (head_of more)
    (cond (bytes_eq first (codes "wake")) (wake_of more)
    (cond (bytes_eq first (codes "take")) (take_of more) Malformed))

-- what a line says
abbrev pub meaning : List ℕ → Line
meaning line = meaning_of (fields_of line)

-- what the lines of a text say
abbrev pub meanings : List ℕ → List Line
meanings text = map meaning (lines_of text)
