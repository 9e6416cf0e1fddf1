-- An index of the events of a world that only put their message back, kept from event to event.
use Rattle.std.specs.Prelude.{◌≡◌, ℕ, List, slice_set}
use Rattle.peer_network.specs.declared.event.Event.{Event}
use Rattle.ghs_core.specs.NetState.{network}
use Rattle.ghs_flags.specs.Flags.{at}
use Rattle.peer_index.specs.Index.{IndexState, IsFor, IsIndexOf}
use Rattle.peer_index.specs.Places.{HasPlace, place}
use Rattle.ghs_world.specs.WorldState.{WorldState, home}
use Rattle.ghs_patient.specs.Patience.{puts_back}
use Rattle.ghs_patient.specs.Walks.{on_each, on_takes}

-- its marks are those of a world
abbrev pub AreMarks : WorldState → IndexState → Type 0
AreMarks s x = IsIndexOf (network s.net) (puts_back (home s)) x

-- they are those of the world, but perhaps for some events
pub record AreMarksBut (s : WorldState) (wrong : Event → Type 0) (x : IndexState) : Type 0 where
  pub for_all : IsFor (network s.net) x
  pub marks : (e : Event) → HasPlace (network s.net) e → (wrong e → ⊥) → at x.marks (place (network s.net) e) ≡ puts_back (home s) e

-- the index with the right mark of one event
abbrev pub marked : WorldState → Event → IndexState → IndexState
marked s e x = record x { marks = slice_set x.marks (place (network s.net) e) (puts_back (home s) e) }

-- of the Takes at the first ports of a node
abbrev pub marked_to : WorldState → ℕ → ℕ → IndexState → IndexState
marked_to s v n x = on_takes (marked s) v n x

-- of several events
abbrev pub marked_all : WorldState → List Event → IndexState → IndexState
marked_all s es x = on_each (marked s) es x
