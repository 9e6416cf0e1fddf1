-- A step as a line of text.
use Rattle.std.specs.Prelude.{ℕ, Bool, true, false, Option, Some, None, List, [], ◌∷◌, ◌++◌, codes, decimal}
use Rattle.std.specs.List.{flat_map}
use Rattle.peer_network.specs.declared.event.Event.{Event}
use Rattle.peer_network.specs.Events.{event_node}
use Rattle.peer_words.specs.declared.value.Saying.{Saying}
use Rattle.peer_words.specs.Text.{dash, message_text, number_or_dash, value_text}
use Rattle.peer_steps.specs.declared.change.Change.{Change}
use Rattle.peer_steps.specs.declared.change.Change.TheVariants.{Mark, Variable, Gone}
use Rattle.peer_steps.specs.declared.moment.Moment.{Moment}
use Rattle.peer_steps.specs.declared.sent.Sent.{Sent}
use Rattle.peer_steps.specs.Told.{event_port}

-- a field, and the blank behind it
unfoldable pub field : List ℕ → List ℕ
field t = t ++ codes " "

abbrev pub change_name : Change → List ℕ
change_name (Mark p w) = codes "mark." ++ decimal p
change_name (Variable s) = s.name
change_name (Gone n) = n

abbrev pub change_value : Change → List ℕ
change_value (Mark p w) = w
change_value (Variable s) = value_text s.value
change_value (Gone n) = dash

-- a mark or a variable, and its new value
unfoldable pub change_text : Change → List ℕ
change_text c = change_name c ++ codes "=" ++ change_value c

-- `PORT>FAR:MESSAGE`
unfoldable pub send_text : Sent → List ℕ
send_text s = decimal s.port ++ codes ">" ++ decimal s.to ++ codes ":" ++ message_text s.message

unfoldable pub behind_semicolon : {A : Type 0} → (A → List ℕ) → A → List ℕ
behind_semicolon part x = codes ";" ++ part x

-- parts with a semicolon between each and the next
unfoldable pub joined : {A : Type 0} → (A → List ℕ) → List A → List ℕ
joined part [] = dash
joined part (x ∷ xs) = part x ++ flat_map (behind_semicolon part) xs

-- whose event it is, the port of the message taken, and the node at the other end of it
unfoldable pub place_fields : Event → Option ℕ → List ℕ
place_fields e far = field (decimal (event_node e)) ++ field (number_or_dash (event_port e)) ++ field (number_or_dash far)

-- what becomes of a message
abbrev pub fate_word : Bool → List ℕ
fate_word true = codes "waits"
fate_word false = codes "done"

-- the message taken, the row, and what becomes of the message
unfoldable pub work_fields : Option Saying → List ℕ → Bool → List ℕ
work_fields None r waits = field (codes "wake") ++ field r ++ field dash
work_fields (Some m) r waits = field (message_text m) ++ field r ++ field (fate_word waits)

-- NUMBER NODE PORT FAR WORK ROW FATE CHANGES SENDS TOTAL
abbrev pub line_of : Moment → List Change → List Sent → ℕ → List ℕ
line_of m cs ss total =
    field (decimal m.number)
    ++ place_fields m.event m.far
    ++ work_fields m.message m.row m.waits
    ++ field (joined change_text cs)
    ++ field (joined send_text ss)
    ++ decimal total
    ++ 10 ∷ []
