-- The events that a patient schedule picks from.
use Rattle.std.specs.Prelude.{ℕ, Bool, false, ◌&&◌, not, List, [], ◌∷◌, filter}
use Rattle.ghs_node.specs.declared.message.Message.{Message}
use Rattle.ghs_node.specs.NodeState.{NodeState}
use Rattle.peer_network.specs.declared.event.Event.{Event}
use Rattle.peer_network.specs.declared.event.Event.TheVariants.{Wake, Take}
use Rattle.peer_network.specs.Network.{Network}
use Rattle.ghs_protocol.specs.Net.{Net, is_lawful_under}
use Rattle.ghs_core.specs.Waits.{waits}
use Rattle.peer_index.specs.Places.{all_events}

-- of the messages at a port of a node the first would be put back
abbrev pub first_waits : NodeState → ℕ → List Message → Bool
first_waits n p [] = false
first_waits n p (m ∷ ms) = waits n p m

-- the second would not
abbrev pub second_goes : NodeState → ℕ → List Message → Bool
second_goes n p [] = false
second_goes n p (m ∷ []) = false
second_goes n p (m ∷ k ∷ ms) = not (waits n p k)

-- the event would only put its message back
abbrev pub puts_back : Net → Event → Bool
puts_back w (Wake v) = false
puts_back w (Take v p) = first_waits (w.node v) p (w.queue v p)

-- behind the event's message stands one that would not be put back
abbrev pub uncovers : Net → Event → Bool
uncovers w (Wake v) = false
uncovers w (Take v p) = second_goes (w.node v) p (w.queue v p)

-- the event is lawful under the wake set, and moves the run on
abbrev pub moves_on : (ℕ → Bool) → Network → Net → Event → Bool
moves_on may g w e = is_lawful_under may g w e && not (puts_back w e)

abbrev pub or_else : List Event → List Event → List Event
or_else [] others = others
or_else (e ∷ es) others = e ∷ es

-- the events that move the run on; where there is none, those that uncover a message that does
abbrev pub patient_events : (ℕ → Bool) → Network → Net → List Event
patient_events may g w = or_else (filter (moves_on may g w) (all_events g)) (filter (uncovers w) (all_events g))
