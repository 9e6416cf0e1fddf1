-- The entries of a book.
use Rattle.std.specs.Prelude.{ℕ, cond, filter, not, List, [], ◌∷◌, Option, Some, None}
use Rattle.std.specs.Option.{option_map}
use Rattle.std.specs.Str.{bytes_eq}

-- a question, the number of the line that first says its answer, and the answer
pub record Entry : Type 0 where
  pub question : List ℕ
  pub number : ℕ
  pub answer : List ℕ

abbrev pub entry : List ℕ → ℕ → List ℕ → Entry
entry question number answer = record { question = question; number = number; answer = answer }

-- the entry for a question
abbrev pub entry_for : List Entry → List ℕ → Option Entry
entry_for [] question = None
entry_for (first ∷ more) question = cond (bytes_eq question first.question) (Some first) (entry_for more question)

-- the entries for other questions
abbrev pub others : List ℕ → List Entry → List Entry
others question entries = filter (λ e. not (bytes_eq e.question question)) entries

-- the answer to a question, with the number of the line that says it first
abbrev pub told_in : List Entry → List ℕ → Option (ℕ × List ℕ)
told_in entries question = option_map {U = ℕ × List ℕ} (λ e. (e.number, e.answer)) (entry_for entries question)

-- the answer to a question
abbrev pub answer_in : List Entry → List ℕ → Option (List ℕ)
answer_in entries question = option_map (λ e. e.answer) (entry_for entries question)
