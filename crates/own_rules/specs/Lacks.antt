-- The questions that a book lacks in several runs, each once.
use Rattle.std.specs.Prelude.{ℕ, codes, ◌++◌, List, [], ◌∷◌, Option}
use Rattle.std.specs.List.{flat_map}
use Rattle.ghs_graph.specs.Graph.{Shape}
use Rattle.own_book.specs.Entry.{Entry, told_in}
use Rattle.own_rules.specs.Stops.{greeting_line, question_of}
use Rattle.own_rules.specs.Texts.{Text}
use Rattle.own_rules.specs.declared.node.Lookup.{Lookup}
use Rattle.own_rules.specs.declared.node.Reason.{Reason}
use Rattle.own_rules.specs.declared.node.Reason.TheVariants.{Unanswered, Fails, Spent}
use Rattle.own_rules.specs.declared.node.Stop.{Stop}

module _ (book : List Entry) (g : Shape) where
  -- the question at which node v has stopped, where the book has no answer to it
  abbrev pub lack_by : ℕ → Option Lookup → Reason → List Text
  lack_by v asked Unanswered = question_of book g v asked ∷ []
  lack_by v asked (Fails fault) = []
  lack_by v asked Spent = []

  abbrev pub lack_of : ℕ × Stop → List Text
  lack_of s = lack_by s.0 s.1.asked s.1.reason

  abbrev pub lacks_of : List (ℕ × Stop) → List Text
  lacks_of stops = flat_map lack_of stops

abbrev pub as_line : Text → Text
as_line text = text ++ codes "\n"

-- one a line, behind the question after the greeting
abbrev pub lacks_text : List Entry → List Text → Text
lacks_text book lacks = greeting_line (told_in book (codes "own 1")) ++ flat_map as_line lacks
