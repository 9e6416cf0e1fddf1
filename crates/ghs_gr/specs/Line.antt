-- What the lines of a graph text say.
use Rattle.std.specs.Prelude.{ℕ, ◌≡◌, ◌<◌, ◌-◌, ◌^◌, ◌++◌, length, true, cond, codes, map, nat_eq, List, [], ◌∷◌, Option, Some}
use Rattle.std.specs.List.{starts_with}
use Rattle.std.specs.Str.{all_ascii_digits, bytes_eq}
use Rattle.ghs_lines.specs.Fields.{fields_of}
use Rattle.ghs_lines.specs.Lines.{lines_of}
use Rattle.ghs_lines.specs.Numbers.{number_of}
use Rattle.ghs_gr.specs.Arc.{arc_with}
use Rattle.ghs_gr.specs.declared.line.Line.{Line}
use Rattle.ghs_gr.specs.declared.line.Line.TheVariants.{Passed, Malformed, Problem, Arc}

-- the number below 2^32 that a field is
abbrev pub number_in : List ℕ → Option ℕ
number_in field = number_of (2 ^ 32 - 1) field

-- a text begins with digits of this value, then this byte, then the rest
pub record IsNumberBefore (end : ℕ) (text : List ℕ) (value : ℕ) (rest : List ℕ) : Type 0 where
  pub digits : List ℕ
  pub some : 0 < length digits
  pub all : all_ascii_digits digits ≡ true
  pub number : number_in digits ≡ Some value
  pub cut : text ≡ digits ++ end ∷ rest

-- what the fields behind a `p` say
abbrev pub problem_of : List (List ℕ) → Line
problem_of (sp ∷ nodes ∷ arcs ∷ []) = cond (bytes_eq sp (codes "sp")) (Problem (number_in nodes) (number_in arcs)) Malformed
problem_of _ = Malformed

-- what the fields behind an `a` say
abbrev pub arc_of : List (List ℕ) → Line
arc_of (from ∷ to ∷ weight ∷ []) = Arc (arc_with (number_in from) (number_in to) (number_in weight))
arc_of _ = Malformed

-- what fields say: nothing, a comment, a problem line, an arc line, or nothing that is known
abbrev pub meaning_of : List (List ℕ) → Line
meaning_of [] = Passed
meaning_of (first ∷ more) =
    cond (starts_with nat_eq first (codes "c")) Passed
    (cond (bytes_eq first (codes "p")) (problem_of more)
    (cond (bytes_eq first (codes "a")) (arc_of more) Malformed))

-- what a line says
abbrev pub meaning : List ℕ → Line
meaning line = meaning_of (fields_of line)

-- what the lines of a text say
abbrev pub meanings : List ℕ → List Line
meanings text = map meaning (lines_of text)
