-- What lines and panels say of their protocol, where several are swept.
use Rattle.std.specs.Prelude.{ℕ, Bool, true, false, codes, nat_le, List, [], ◌∷◌, ◌++◌, length, Option, Some, None}
use Rattle.ghs_choices.specs.declared.by.By.{By}
use Rattle.ghs_choices.specs.declared.form.Form.{Form}
use Rattle.ghs_choices.specs.declared.form.Form.TheVariants.{Text, Json}
use Rattle.ghs_commands.specs.declared.job.Sheet.{Sheet}
use Rattle.ghs_commands.specs.declared.job.Sheet.TheVariants.{Chart, Runs, Summary}
use Rattle.peer_trace.specs.Protocol.{name_of}
use Rattle.peer_trace.specs.declared.protocol.Protocol.{Protocol}
use Rattle.peer_words.specs.Json.{member, quoted}

abbrev pub are_several : List Protocol → Bool
are_several ps = nat_le 2 (length ps)

-- lines of runs have a column of protocols; those of their parts and of summaries begin with theirs, where there are several
abbrev pub says_protocol : Sheet → Option By → List Protocol → Bool
says_protocol Runs None ps = false
says_protocol Runs (Some by) ps = are_several ps
says_protocol Summary by ps = are_several ps
says_protocol Chart by ps = false

-- the name of that column, and a comma; lines of JSON say it with each name
abbrev pub protocol_head : Bool → Form → List ℕ
protocol_head true Text = codes "protocol,"
protocol_head true Json = []
protocol_head false form = []

-- a protocol's name as a field, or as a member of an object that has been opened, and a comma
abbrev pub protocol_field : Form → Protocol → List ℕ
protocol_field Text p = name_of p ++ codes ","
protocol_field Json p = member [] (codes "protocol") (quoted (name_of p)) ++ codes ","

-- what lines by a protocol begin with, where all lines of their network begin with this front
abbrev pub front_by : Bool → Form → List ℕ → Protocol → List ℕ
front_by false form front p = front
front_by true form front p = front ++ protocol_field form p

-- the name of a panel: that of its network, if it has one, and where protocols are several that of its own
abbrev pub panel_name : Bool → List ℕ → Protocol → List ℕ
panel_name false name p = name
panel_name true [] p = name_of p
panel_name true (c ∷ cs) p = (c ∷ cs) ++ codes ", " ++ name_of p
