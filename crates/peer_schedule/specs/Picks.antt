-- Which of some events a schedule picks.
use Rattle.std.specs.Prelude.{◌≡◌, ℕ, ◌%◌, ◌<◌, ◌≤◌, Some, List, length, slice_get, take}
use Rattle.peer_network.specs.declared.event.Event.{Event}
use Rattle.peer_schedule.specs.Schedule.{word_of}

-- event e is the one that the next word picks of these
abbrev pub IsPick : List Event → List ℕ → Event → Type 0
IsPick events words e = (0 < length events) × (slice_get events (word_of words % length events) ≡ Some e)

-- of two lists that a schedule has picked from one trace on the longer begins with the other; where they have one length,
-- the schedule's states are the same too
pub record PicksAgree (es fs : List Event) (s t : List ℕ) : Type 0 where
  pub begins : length es ≤ length fs → take (length es) fs ≡ es
  pub state : length es ≡ length fs → s ≡ t
