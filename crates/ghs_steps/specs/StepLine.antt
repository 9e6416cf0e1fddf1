-- A step as a line of text.
use Rattle.std.specs.Prelude.{ℕ, List, [], ◌∷◌, ◌++◌, codes, decimal}
use Rattle.ghs_node.specs.declared.delta.Fate.{Fate}
use Rattle.ghs_node.specs.declared.delta.Fate.TheVariants.{Consumed, Requeued}
use Rattle.ghs_node.specs.declared.row_name.RowName.{RowName}
use Rattle.ghs_node.specs.declared.work.Work.{Work}
use Rattle.ghs_node.specs.declared.work.Work.TheVariants.{Wake, Deliver}
use Rattle.peer_words.specs.Text.{best_text, dash, key_or_dash, message_text, number_or_dash}
use Rattle.peer_steps.specs.StepLine.{field, joined, place_fields}
use Rattle.ghs_steps.specs.declared.change.Change.{Change}
use Rattle.ghs_steps.specs.declared.change.Change.TheVariants as change
use Rattle.ghs_steps.specs.declared.moment.Moment.{Moment}
use Rattle.ghs_steps.specs.declared.sent.Sent.{Sent}
use Rattle.ghs_steps.specs.Told.{Told}
use Rattle.ghs_steps.specs.Words.{phase_word, mark_word, row_word, says}

abbrev pub change_name : Change → List ℕ
change_name (change.Mark p m) = codes "mark." ++ decimal p
change_name (change.Level l) = codes "level"
change_name (change.Name f) = codes "name"
change_name (change.Phase s) = codes "phase"
change_name (change.FindCount c) = codes "find_count"
change_name (change.InBranch p) = codes "in_branch"
change_name (change.Best b) = codes "best"
change_name (change.Probe p) = codes "probe"
change_name change.Halted = codes "halted"

abbrev pub change_value : Change → List ℕ
change_value (change.Mark p m) = mark_word m
change_value (change.Level l) = decimal l
change_value (change.Name f) = key_or_dash f
change_value (change.Phase s) = phase_word s
change_value (change.FindCount c) = decimal c
change_value (change.InBranch p) = number_or_dash p
change_value (change.Best b) = best_text b
change_value (change.Probe p) = number_or_dash p
change_value change.Halted = codes "yes"

-- a mark or a variable, and its new value
unfoldable pub change_text : Change → List ℕ
change_text c = change_name c ++ codes "=" ++ change_value c

-- `PORT>FAR:MESSAGE`
unfoldable pub send_text : Sent → List ℕ
send_text s = decimal s.port ++ codes ">" ++ decimal s.to ++ codes ":" ++ message_text (says s.message)

abbrev pub fate_word : Fate → List ℕ
fate_word Consumed = codes "done"
fate_word Requeued = codes "waits"

-- the message taken, the row, and what becomes of the message
unfoldable pub work_fields : Work → RowName → Fate → List ℕ
work_fields Wake r f = field (codes "wake") ++ field (row_word r) ++ field dash
work_fields (Deliver p m) r f = field (message_text (says m)) ++ field (row_word r) ++ field (fate_word f)

-- NUMBER NODE PORT FAR WORK ROW FATE CHANGES SENDS TOTAL
abbrev pub line_of : Moment → List Change → List Sent → List ℕ
line_of m cs ss =
    field (decimal m.number)
    ++ place_fields m.event m.far
    ++ work_fields m.work m.row m.fate
    ++ field (joined change_text cs)
    ++ field (joined send_text ss)
    ++ decimal m.total
    ++ 10 ∷ []

unfoldable pub step_line : Told → List ℕ
step_line t = line_of t.moment t.changes t.sends
