-- The text of a trace.
use Rattle.std.specs.Prelude.{ℕ, codes, decimal, length, ◌++◌, List, [], ◌∷◌}
use Rattle.std.specs.List.{flat_map}
use Rattle.peer_network.specs.declared.event.Event.{Event}
use Rattle.peer_network.specs.declared.event.Event.TheVariants.{Wake, Take}

-- `trace COUNT`
abbrev pub head_text : ℕ → List ℕ
head_text count = codes "trace " ++ decimal count ++ 10 ∷ []

-- `wake V` or `take V P`
abbrev pub event_text : Event → List ℕ
event_text (Wake v) = codes "wake " ++ decimal v ++ 10 ∷ []
event_text (Take v port) = codes "take " ++ decimal v ++ codes " " ++ decimal port ++ 10 ∷ []

-- how many events there are, and a line for each of them
abbrev pub trace_text : List Event → List ℕ
trace_text events = head_text (length events) ++ flat_map event_text events
