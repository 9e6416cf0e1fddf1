-- The events of a trace as lines, of text or of JSON.
use Rattle.std.specs.Prelude.{ℕ, ◌+◌, List, [], ◌∷◌, ◌++◌, length, if◌then◌else◌}
use Rattle.ghs_graph.specs.Graph.{Shape}
use Rattle.peer_network.specs.declared.event.Event.{Event}
use Rattle.ghs_choices.specs.declared.choice.Choice.{Choice}
use Rattle.ghs_choices.specs.declared.form.Form.{Form}
use Rattle.ghs_choices.specs.declared.form.Form.TheVariants.{Text, Json}
use Rattle.ghs_choices.specs.Choice.{is_chosen}
use Rattle.peer_machine.specs.Net.{event_node}
use Rattle.peer_machine.specs.Rules.{Rules}
use Rattle.peer_words.specs.Words.{Words}
use Rattle.peer_steps.specs.declared.change.Change.{Change}
use Rattle.peer_steps.specs.declared.moment.Moment.{Moment}
use Rattle.peer_steps.specs.declared.sent.Sent.{Sent}
use Rattle.peer_steps.specs.Json.{json_of}
use Rattle.peer_steps.specs.Step.{moment_of, changes_by, sends_by, total_by}
use Rattle.peer_steps.specs.StepLine.{line_of}

abbrev pub line_in : Form → Moment → List Change → List Sent → ℕ → List ℕ
line_in Text m cs ss total = line_of m cs ss total
line_in Json m cs ss total = json_of m cs ss total

-- what is told of the events that come after some, of each by those before it
abbrev pub told_behind : (List Event → Event → List ℕ) → List Event → List Event → List ℕ
told_behind tells done [] = []
told_behind tells done (e ∷ es) = tells done e ++ told_behind tells (done ++ e ∷ []) es

module _ {S M : Type 0} (r : Rules S M) (words : Words S M) (f : Form) (g : Shape) where
  -- the line of an event that comes after these
  abbrev pub line_by : List Event → Event → List ℕ
  line_by done e =
      line_in f (moment_of r words g done e) (changes_by r words g done e) (sends_by r words g done e) (total_by r words g done e)

  -- the same, if the event is chosen
  abbrev pub shown : Choice → List Event → Event → List ℕ
  shown c done e = if is_chosen c (length done + 1) (event_node e) then line_by done e else []

  -- the lines of the chosen ones of the events of a trace, and those of all of them
  abbrev pub lines : Choice → List Event → List ℕ
  lines c es = told_behind (shown c) [] es

  abbrev pub all_lines : List Event → List ℕ
  all_lines es = told_behind line_by [] es
