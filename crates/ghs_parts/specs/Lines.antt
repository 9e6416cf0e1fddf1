-- The figures of parts as lines: those of any protocol.
use Rattle.std.specs.Prelude.{ℕ, List, [], ◌∷◌, codes}
use Rattle.ghs_graph.specs.Graph.{Shape}
use Rattle.peer_network.specs.declared.event.Event.{Event}
use Rattle.peer_words.specs.declared.value.Said.{Said}
use Rattle.peer_words.specs.declared.value.Value.TheVariants.{Number}
use Rattle.ghs_steps.specs.Words.{row_word}
use Rattle.ghs_choices.specs.declared.form.Form.{Form}
use Rattle.ghs_choices.specs.declared.by.By.{By}
use Rattle.ghs_choices.specs.declared.by.By.TheVariants.{Node, Level, Rule}
use Rattle.peer_parts.specs.declared.columns.Column.{Column}
use Rattle.peer_parts.specs.Line as line
use Rattle.peer_parts.specs.Lines.{node_part, numbered_lines, row_part}
use Rattle.ghs_parts.specs.declared.part.Part.{Part}
use Rattle.ghs_parts.specs.Parts.{first_of, parts_of}
use Rattle.ghs_parts.specs.Rule.{rule_at}

-- a level as a part
abbrev pub level_part : ℕ → Said
level_part l = record { name = codes "level"; value = Number l }

-- a node or a level with its messages, a row with how often it applied
abbrev pub line_behind : Form → List ℕ → By → ℕ → List Column → ℕ → Part → List ℕ
line_behind form front Node seed columns v part = line.line_behind form front seed columns (node_part v) part.kinds
line_behind form front Level seed columns l part = line.line_behind form front seed columns (level_part l) part.kinds
line_behind form front Rule seed columns p part = line.line_behind form front seed columns (row_part (row_word (rule_at p))) (part.events ∷ [])

-- the lines of a run
abbrev pub run_text : Form → List ℕ → By → ℕ → List Column → Shape → List Event → List ℕ
run_text form front by seed columns g es = numbered_lines (line_behind form front by seed columns) (first_of by) (parts_of by g es)
