-- Events: of which node, of which kind, and whose wakes are allowed.
use Rattle.std.specs.Prelude.{◌≡◌, ℕ, suc, Bool, true, List, [], ◌∷◌}
use Rattle.peer_network.specs.declared.event.Event.{Event}
use Rattle.peer_network.specs.declared.event.Event.TheVariants.{Wake, Take}

-- the node of an event
abbrev pub event_node : Event → ℕ
event_node (Wake v) = v
event_node (Take v p) = v

-- how many of the events take a message
abbrev pub takes_in : List Event → ℕ
takes_in [] = 0
takes_in (Wake v ∷ es) = takes_in es
takes_in (Take v p ∷ es) = suc (takes_in es)

-- a wake is of a node that may wake by itself
abbrev pub MayWake : (ℕ → Bool) → Event → Type 0
MayWake may (Wake v) = may v ≡ true
MayWake may (Take v p) = Unit {0}
