-- A step as a line of JSON.
use Rattle.std.specs.Prelude.{ℕ, Bool, true, false, not, Option, Some, None, List, [], ◌∷◌, ◌++◌, codes, decimal, filter}
use Rattle.std.specs.List.{flat_map}
use Rattle.peer_network.specs.declared.event.Event.{Event}
use Rattle.peer_network.specs.Events.{event_node}
use Rattle.peer_words.specs.declared.value.Saying.{Saying}
use Rattle.peer_words.specs.Json.{escaped, member, message_members, next, null, number_or_null, pair, quoted, value_json}
use Rattle.peer_steps.specs.declared.change.Change.{Change}
use Rattle.peer_steps.specs.declared.change.Change.TheVariants.{Mark, Variable, Gone}
use Rattle.peer_steps.specs.declared.moment.Moment.{Moment}
use Rattle.peer_steps.specs.declared.sent.Sent.{Sent}
use Rattle.peer_steps.specs.StepLine.{fate_word}
use Rattle.peer_steps.specs.Told.{event_port}

unfoldable pub behind_comma : {A : Type 0} → (A → List ℕ) → A → List ℕ
behind_comma part x = codes "," ++ part x

-- parts with a comma between each and the next
unfoldable pub listed : {A : Type 0} → (A → List ℕ) → List A → List ℕ
listed part [] = []
listed part (x ∷ xs) = part x ++ flat_map (behind_comma part) xs

abbrev pub work_members : Option Saying → List ℕ
work_members None = next (codes "kind") (quoted (codes "wake"))
work_members (Some m) = message_members (codes ",") m

abbrev pub fate_json : Option Saying → Bool → List ℕ
fate_json None waits = null
fate_json (Some m) waits = quoted (fate_word waits)

unfoldable pub row_members : Option Saying → List ℕ → Bool → List ℕ
row_members m r waits = next (codes "row") (quoted r) ++ next (codes "fate") (fate_json m waits)

abbrev pub is_mark : Change → Bool
is_mark (Mark p w) = true
is_mark (Variable s) = false
is_mark (Gone n) = false

-- a port and its mark, or a member with a variable's new value, if it has one
unfoldable pub change_json : Change → List ℕ
change_json (Mark p w) = pair p (escaped w)
change_json (Variable s) = member [] s.name (value_json s.value)
change_json (Gone n) = member [] n null

-- of the changes those of marks, or those of variables
abbrev pub is_of : Bool → Change → Bool
is_of true c = is_mark c
is_of false c = not (is_mark c)

-- what stands before a part: a comma, if others do
abbrev pub comma : Bool → List ℕ
comma false = []
comma true = codes ","

-- a list of the marks that differ, and an object of the variables
unfoldable pub change_members : List Change → List ℕ
change_members cs =
    codes ",\"marks\":[" ++ listed change_json (filter (is_of true) cs)
    ++ codes "],\"set\":{" ++ listed change_json (filter (is_of false) cs)
    ++ codes "}"

-- the port on which a message goes out, and the node and the port where it will wait
unfoldable pub way_members : ℕ → ℕ → ℕ → List ℕ
way_members port to at =
    member (codes "{") (codes "port") (decimal port) ++ next (codes "to") (decimal to) ++ next (codes "at") (decimal at)

-- the way of a message that goes out, and the message
unfoldable pub send_json : Sent → List ℕ
send_json s = way_members s.port s.to s.at ++ message_members (codes ",") s.message ++ codes "}"

unfoldable pub sends_member : List Sent → List ℕ
sends_member ss = codes ",\"send\":[" ++ listed send_json ss ++ codes "]"

-- an event's number, whose it is, the port of the message taken, and the node at the other end of it
unfoldable pub place_members : ℕ → Event → Option ℕ → List ℕ
place_members number e far =
    member (codes "{") (codes "step") (decimal number)
    ++ next (codes "node") (decimal (event_node e))
    ++ next (codes "port") (number_or_null (event_port e))
    ++ next (codes "far") (number_or_null far)

-- step, node, port, far, kind and what the message carries, row, fate, marks, set, send, total
abbrev pub json_of : Moment → List Change → List Sent → ℕ → List ℕ
json_of m cs ss total =
    place_members m.number m.event m.far
    ++ work_members m.message
    ++ row_members m.message m.row m.waits
    ++ change_members cs
    ++ sends_member ss
    ++ next (codes "total") (decimal total)
    ++ codes "}\n"
