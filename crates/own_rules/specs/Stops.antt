-- Where nodes have stopped, and which questions the book lacks.
use Rattle.std.specs.Prelude.{ℕ, zero, suc, ◌≤◌, codes, ◌++◌, List, [], ◌∷◌, Option, Some, None}
use Rattle.std.specs.List.{All, flat_map}
use Rattle.ghs_graph.specs.Graph.{Shape}
use Rattle.ghs_graph.specs.Ports.{ports_of}
use Rattle.own_book.specs.Asking.{open_text}
use Rattle.own_book.specs.Entry.{Entry, told_in}
use Rattle.own_rules.specs.Questions.{lookup_text}
use Rattle.own_rules.specs.Texts.{Text, texts_of}
use Rattle.own_rules.specs.declared.node.Lookup.{Lookup}
use Rattle.own_rules.specs.declared.node.Node.{Node}
use Rattle.own_rules.specs.declared.node.Reason.{Reason}
use Rattle.own_rules.specs.declared.node.Reason.TheVariants.{Unanswered, Fails, Spent}
use Rattle.own_rules.specs.declared.node.State.{State}
use Rattle.own_rules.specs.declared.node.State.TheVariants.{Runs, Stopped}
use Rattle.own_rules.specs.declared.node.Stop.{Stop}

-- node v, where it has stopped
abbrev pub stop_in : ℕ → State → List (ℕ × Stop)
stop_in v (Runs text asleep left) = []
stop_in v (Stopped s) = (v, s) ∷ []

-- of nodes 1 to n those that have stopped, by rising number
abbrev pub stops_in : (ℕ → Node) → ℕ → List (ℕ × Stop)
stops_in node zero = []
stops_in node (suc n) = stops_in node n ++ stop_in (suc n) (node (suc n)).state

-- each of these is a node of 1 to n
abbrev pub AreWithin : ℕ → List (ℕ × Stop) → Type 0
AreWithin n stops = All (λ (s : ℕ × Stop). (1 ≤ s.0) × (s.0 ≤ n)) stops

-- the question after the greeting, by what the book says to it
abbrev pub greeting_line : Option (ℕ × Text) → Text
greeting_line None = codes "own 1\n"
greeting_line (Some told) = []

module _ (book : List Entry) (g : Shape) where
  -- the question at which node v has stopped
  abbrev pub question_of : ℕ → Option Lookup → Text
  question_of v None = open_text v (ports_of g.keys v)
  question_of v (Some l) = lookup_text (texts_of book) l

  -- a line of it, where the book has no answer to it
  abbrev pub lacked : ℕ → Option Lookup → Reason → Text
  lacked v asked Unanswered = question_of v asked ++ codes "\n"
  lacked v asked (Fails fault) = []
  lacked v asked Spent = []

  abbrev pub stop_line : ℕ × Stop → Text
  stop_line s = lacked s.0 s.1.asked s.1.reason

  -- the questions that the book lacks, one a line: that after the greeting, then those of stopped nodes
  abbrev pub lacking : List (ℕ × Stop) → Text
  lacking stops = greeting_line (told_in book (codes "own 1")) ++ flat_map stop_line stops
