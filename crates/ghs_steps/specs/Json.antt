-- A step as a line of JSON.
use Rattle.std.specs.Prelude.{ℕ, List, [], ◌∷◌, ◌++◌, codes, decimal}
use Rattle.ghs_node.specs.declared.delta.Fate.{Fate}
use Rattle.ghs_node.specs.declared.row_name.RowName.{RowName}
use Rattle.ghs_node.specs.declared.work.Work.{Work}
use Rattle.ghs_node.specs.declared.work.Work.TheVariants.{Wake, Deliver}
use Rattle.peer_words.specs.Json.{best_or_null, key_or_null, member, message_members, next, null, number_or_null, pair, quoted}
use Rattle.peer_steps.specs.Json.{listed, place_members, way_members}
use Rattle.ghs_steps.specs.declared.change.Change.{Change}
use Rattle.ghs_steps.specs.declared.change.Change.TheVariants as change
use Rattle.ghs_steps.specs.declared.moment.Moment.{Moment}
use Rattle.ghs_steps.specs.declared.sent.Sent.{Sent}
use Rattle.ghs_steps.specs.StepLine.{fate_word}
use Rattle.ghs_steps.specs.Told.{Told}
use Rattle.ghs_steps.specs.Words.{phase_word, mark_word, row_word, says}

abbrev pub work_members : Work → List ℕ
work_members Wake = next (codes "kind") (quoted (codes "wake"))
work_members (Deliver p m) = message_members (codes ",") (says m)

-- a mark or a variable, and its new value
abbrev pub change_name : Change → List ℕ
change_name (change.Mark p m) = codes "mark"
change_name (change.Level l) = codes "level"
change_name (change.Name f) = codes "name"
change_name (change.Phase s) = codes "phase"
change_name (change.FindCount c) = codes "find_count"
change_name (change.InBranch p) = codes "in_branch"
change_name (change.Best b) = codes "best"
change_name (change.Probe p) = codes "probe"
change_name change.Halted = codes "halted"

abbrev pub change_json : Change → List ℕ
change_json (change.Mark p m) = pair p (mark_word m)
change_json (change.Level l) = decimal l
change_json (change.Name f) = key_or_null f
change_json (change.Phase s) = quoted (phase_word s)
change_json (change.FindCount c) = decimal c
change_json (change.InBranch p) = number_or_null p
change_json (change.Best b) = best_or_null b
change_json (change.Probe p) = number_or_null p
change_json change.Halted = codes "true"

unfoldable pub change_member : List ℕ → Change → List ℕ
change_member lead c = member lead (change_name c) (change_json c)

-- a variable, the first or behind a comma
abbrev pub set_member : List Change → List ℕ
set_member cs = codes ",\"set\":{" ++ listed (change_member []) cs ++ codes "}"

-- the mark, which stands before the variables where there is one, and the variables
unfoldable pub change_members : List Change → List ℕ
change_members (change.Mark p m ∷ cs) = change_member (codes ",") (change.Mark p m) ++ set_member cs
change_members cs = next (codes "mark") null ++ set_member cs

-- its way, and the message
unfoldable pub send_json : Sent → List ℕ
send_json s = way_members s.port s.to s.at ++ message_members (codes ",") (says s.message) ++ codes "}"

unfoldable pub sends_member : List Sent → List ℕ
sends_member ss = codes ",\"send\":[" ++ listed send_json ss ++ codes "]"

unfoldable pub row_members : Work → RowName → Fate → List ℕ
row_members Wake r f = next (codes "row") (quoted (row_word r)) ++ next (codes "fate") null
row_members (Deliver p m) r f = next (codes "row") (quoted (row_word r)) ++ next (codes "fate") (quoted (fate_word f))

-- step, node, port, far, kind and what the message carries, row, fate, mark, set, send, total
abbrev pub json_of : Moment → List Change → List Sent → List ℕ
json_of m cs ss =
    place_members m.number m.event m.far
    ++ work_members m.work
    ++ row_members m.work m.row m.fate
    ++ change_members cs
    ++ sends_member ss
    ++ next (codes "total") (decimal m.total)
    ++ codes "}\n"

unfoldable pub step_json : Told → List ℕ
step_json t = json_of t.moment t.changes t.sends
