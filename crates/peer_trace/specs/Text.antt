-- The text of a stored run.
use Rattle.std.specs.Prelude.{ℕ, codes, cond, decimal, length, ◌++◌, List, [], ◌∷◌}
use Rattle.std.specs.List.{flat_map}
use Rattle.peer_network.specs.declared.event.Event.{Event}
use Rattle.peer_texts.specs.Text.{event_text, head_text}
use Rattle.peer_trace.specs.Mark.{Mark}
use Rattle.peer_trace.specs.Protocol.{is_in_heads, name_of}
use Rattle.peer_trace.specs.declared.protocol.Protocol.{Protocol}

-- `trace COUNT`, or with the protocol's name between the two
abbrev pub named_head_text : Protocol → ℕ → List ℕ
named_head_text protocol count =
    cond (is_in_heads protocol) (codes "trace " ++ name_of protocol ++ codes " " ++ decimal count ++ 10 ∷ []) (head_text count)

-- the head, and a line for each event
abbrev pub stored_text : Protocol → List Event → List ℕ
stored_text protocol events = named_head_text protocol (length events) ++ flat_map event_text events

-- `trace own NAME entries N sum HEX COUNT`, in front of the count
abbrev pub mark_text : Mark → List ℕ
mark_text mark = codes "trace own " ++ mark.name ++ codes " entries " ++ decimal mark.entries ++ codes " sum " ++ mark.sum ++ codes " "

abbrev pub own_head_text : Mark → ℕ → List ℕ
own_head_text mark count = mark_text mark ++ decimal count ++ 10 ∷ []

-- the same of a run of a user's own protocol
abbrev pub own_text : Mark → List Event → List ℕ
own_text mark events = own_head_text mark (length events) ++ flat_map event_text events
