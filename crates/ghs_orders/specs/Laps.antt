-- The laps of a run: a lap is a piece in which the places of the events rise.
use Rattle.std.specs.Prelude.{ℕ, suc, ◌+◌, nat_lt, Option, Some, None, List, [], ◌∷◌, if◌then◌else◌}
use Rattle.peer_network.specs.declared.event.Event.{Event}
use Rattle.peer_network.specs.Network.{Network}
use Rattle.peer_index.specs.Places.{HasPlace, place}

-- how many laps begin among these events, where the lap before them has come to a place
abbrev pub laps_from : Network → ℕ → List Event → ℕ
laps_from g from [] = 0
laps_from g from (e ∷ es) = (if nat_lt (place g e) from then 1 else 0) + laps_from g (suc (place g e)) es

-- the laps of a run, the first and last of them as far as they go
abbrev pub laps_in : Network → List Event → ℕ
laps_in g es = suc (laps_from g 0 es)

-- the place behind the last event, if there is one; the first place, if there is none
abbrev pub behind_last : Network → Option Event → ℕ
behind_last g None = 0
behind_last g (Some e) = suc (place g e)

-- it has a place, if there is one
abbrev pub HasPlaceIf : Network → Option Event → Type 0
HasPlaceIf g None = Unit {0}
HasPlaceIf g (Some e) = HasPlace g e
