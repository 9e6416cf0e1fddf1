-- The next in turn of a world.
use Rattle.std.specs.Prelude.{ℕ}
use Rattle.peer_network.specs.declared.event.Event.{Event}
use Rattle.ghs_core.specs.NetState.{network}
use Rattle.ghs_world.specs.WorldState.{WorldState, home, wakers}
use Rattle.ghs_orders.specs.Turns.{IsNextInTurn, NoneFrom, place_behind}

-- the event is the next in turn of a world where the lap has come to a place; after the last event of its trace
abbrev pub IsNextFrom : WorldState → ℕ → Event → Type 0
IsNextFrom s from e = IsNextInTurn (wakers s) (network s.net) (home s) from e

abbrev pub IsNext : WorldState → Event → Type 0
IsNext s e = IsNextFrom s (place_behind (network s.net) s.net.trace) e

-- nothing may happen
abbrev pub NoneIsNext : WorldState → Type 0
NoneIsNext s = NoneFrom (wakers s) (network s.net) (home s) 0
