-- What is kept of a world from event to event, so that a patient pick needs no look over all events.
use Rattle.std.specs.Prelude.{◌≡◌, ◌⊎◌, ℕ, Bool, true, false, ◌&&◌, ◌==◌, Option, Some, None, List, [], ◌∷◌, filter, map, slice_set}
use Rattle.std.specs.List.{Contains}
use Rattle.ghs_node.specs.declared.delta.Delta.{Delta}
use Rattle.ghs_node.specs.declared.head.Head.{Head}
use Rattle.ghs_node.specs.declared.mark.Mark.{Mark}
use Rattle.ghs_node.specs.declared.message.Message.{Message}
use Rattle.ghs_node.specs.Phases.{same_phase}
use Rattle.ghs_node.specs.Words.{Outgoing, is_at, is_missing}
use Rattle.peer_network.specs.declared.event.Event.{Event}
use Rattle.peer_network.specs.declared.event.Event.TheVariants.{Wake, Take}
use Rattle.peer_network.specs.Network.{Network, far, far_port}
use Rattle.ghs_protocol.specs.Net.{Net}
use Rattle.peer_network.specs.Events.{event_node}
use Rattle.ghs_core.specs.NetState.{network}
use Rattle.ghs_flags.specs.Flags.{at}
use Rattle.peer_index.specs.Index.{IndexState, IsFor, IsIndexOf}
use Rattle.peer_index.specs.Places.{HasPlace, place, all_events}
use Rattle.ghs_world.specs.Upkeep.{changed}
use Rattle.ghs_world.specs.WorldState.{WorldState, home, wakers}
use Rattle.ghs_patient.specs.Patience.{moves_on, patient_events, uncovers}
use Rattle.ghs_patient.specs.Walks.{on_each, on_takes}

-- there is a second message
abbrev pub has_second : List Message → Bool
has_second [] = false
has_second (m ∷ []) = false
has_second (m ∷ k ∷ ms) = true

abbrev pub is_double : Net → Event → Bool
is_double w (Wake v) = false
is_double w (Take v p) = has_second (w.queue v p)

abbrev pub moves_in : WorldState → Event → Bool
moves_in s e = moves_on (wakers s) (network s.net) (home s) e

abbrev pub patient_in : WorldState → List Event
patient_in s = patient_events (wakers s) (network s.net) (home s)

-- an index of events that move a run on, and one of Takes from queues with a second message
pub record ChoicesState : Type 0 where
  pub moving : IndexState
  pub double : IndexState

-- they are those of a world
pub record AreChoices (s : WorldState) (c : ChoicesState) : Type 0 where
  pub moving : IsIndexOf (network s.net) (moves_in s) c.moving
  pub double : IsIndexOf (network s.net) (is_double (home s)) c.double

-- they have a mark for each of its events
pub record AreFor (g : Network) (c : ChoicesState) : Type 0 where
  pub moving : IsFor g c.moving
  pub double : IsFor g c.double

-- they are those of the world, but perhaps for some events
pub record AreChoicesBut (s : WorldState) (wrong : Event → Type 0) (c : ChoicesState) : Type 0 where
  pub for_all : AreFor (network s.net) c
  pub moving : (e : Event) → HasPlace (network s.net) e → (wrong e → ⊥) → at c.moving.marks (place (network s.net) e) ≡ moves_in s e
  pub double : (e : Event) → HasPlace (network s.net) e → (wrong e → ⊥) → at c.double.marks (place (network s.net) e) ≡ is_double (home s) e

-- the choices with the right marks of one event
abbrev pub marked : WorldState → Event → ChoicesState → ChoicesState
marked s e c = record {
  moving = record c.moving { marks = slice_set c.moving.marks (place (network s.net) e) (moves_in s e) };
  double = record c.double { marks = slice_set c.double.marks (place (network s.net) e) (is_double (home s) e) };
}

-- of the Takes at the first ports of a node
abbrev pub marked_to : WorldState → ℕ → ℕ → ChoicesState → ChoicesState
marked_to s v n c = on_takes (marked s) v n c

-- of several events
abbrev pub marked_all : WorldState → List Event → ChoicesState → ChoicesState
marked_all s es c = on_each (marked s) es c

-- the Takes at the far ends of what node v has sent
abbrev pub far_takes : Network → ℕ → Outgoing → List Event
far_takes g v ss = map (λ (s : ℕ × Message). Take (far g v s.0) (far_port g v s.0)) ss

-- two heads by which the same messages wait, at ports whose marks are the same
abbrev pub same_place : Option ℕ → Option ℕ → Bool
same_place None o = is_missing o
same_place (Some p) o = is_at o p

abbrev pub are_alike : Head → Head → Bool
are_alike h k = same_phase h.phase k.phase && ((h.level == k.level) && same_place h.in_branch k.in_branch)

-- the port has been marked
abbrev pub IsMarked : Option (ℕ × Mark) → ℕ → Type 0
IsMarked None q = ⊥
IsMarked (Some m) q = m.0 ≡ q

-- a Take of the node that reacted, at a port where other messages may wait now
abbrev pub IsOwn : ℕ → Head → Delta → Event → Type 0
IsOwn v before d (Wake u) = ⊥
IsOwn v before d (Take u q) = (u ≡ v) × ((are_alike before d.head ≡ false) ⊎ IsMarked d.mark q)

-- the events for which an event may change the choices
abbrev pub IsStirred : Network → Event → Head → Delta → Event → Type 0
IsStirred g e before d f = Contains (changed g e d.sends) f ⊎ IsOwn (event_node e) before d f

-- where no event moves the run on, second messages would not be put back
abbrev pub SecondsGo : WorldState → Type 0
SecondsGo s = filter (moves_in s) (all_events (network s.net)) ≡ [] →
    filter (is_double (home s)) (all_events (network s.net)) ≡ filter (uncovers (home s)) (all_events (network s.net))
