-- What may come next, as lines of JSON.
use Rattle.std.specs.Prelude.{ℕ, Bool, true, false, List, [], ◌++◌, codes, decimal}
use Rattle.peer_network.specs.declared.event.Event.{Event}
use Rattle.peer_network.specs.declared.event.Event.TheVariants.{Wake, Take}

-- the node of an event, and for a Take the port
abbrev pub place_json : Event → List ℕ
place_json (Wake v) = codes "[" ++ decimal v ++ codes "]"
place_json (Take v port) = codes "[" ++ decimal v ++ codes "," ++ decimal port ++ codes "]"

-- said where it would only put its message back
abbrev pub waits_member : Bool → List ℕ
waits_member true = codes ",\"waits\":true"
waits_member false = []

-- an event that may come next, and whether it would only put its message back
unfoldable pub choice_json : Event → Bool → List ℕ
choice_json e waits = codes "{\"may\":" ++ place_json e ++ waits_member waits ++ codes "}\n"

-- said where the run has ended
abbrev pub ended_json : Bool → List ℕ
ended_json true = codes "{\"ended\":true}\n"
ended_json false = []
