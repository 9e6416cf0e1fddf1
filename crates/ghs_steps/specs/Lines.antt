-- The steps of a trace as lines, of text or of JSON.
use Rattle.std.specs.Prelude.{ℕ, List, [], ◌∷◌}
use Rattle.std.specs.List.{flat_map}
use Rattle.ghs_graph.specs.Graph.{Shape}
use Rattle.peer_network.specs.declared.event.Event.{Event}
use Rattle.ghs_choices.specs.declared.choice.Choice.{Choice}
use Rattle.ghs_choices.specs.declared.form.Form.{Form}
use Rattle.ghs_choices.specs.declared.form.Form.TheVariants.{Text, Json}
use Rattle.ghs_steps.specs.Json.{step_json}
use Rattle.ghs_steps.specs.Step.{chosen, step, steps}
use Rattle.ghs_steps.specs.StepLine.{step_line}
use Rattle.ghs_steps.specs.Told.{Told}

abbrev pub line_in : Form → Told → List ℕ
line_in Text t = step_line t
line_in Json t = step_json t

-- the lines of the steps of a trace that are chosen
abbrev pub lines : Form → Shape → List Event → Choice → List ℕ
lines f g es c = flat_map (line_in f) (chosen c (steps g es))

-- the line of one event after others, if it is chosen
abbrev pub shown : Form → Shape → List Event → Event → Choice → List ℕ
shown f g done e c = flat_map (line_in f) (chosen c (step g done e ∷ []))
