-- Which nodes wake by themselves, as a page says it.
use Rattle.std.specs.Prelude.{Bool, true, false}
use Rattle.peer_network.specs.declared.wake_set.WakeSet.{WakeSet}
use Rattle.peer_network.specs.declared.wake_set.WakeSet.TheVariants.{All, First}

-- all nodes, or the first of each piece
abbrev pub wakers_of : Bool → WakeSet
wakers_of true = First
wakers_of false = All
