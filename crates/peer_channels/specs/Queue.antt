-- One list of messages, of any type M, first in first out, and the room beside it.
use Rattle.std.specs.Prelude.{◌≡◌, ℕ, ◌+◌, ◌-◌, ◌*◌, List, [], ◌∷◌, ◌++◌, Option, None, Some}
use Rattle.std.specs.VecDeque.{deque_len, deque_capacity}
use Rattle.peer_channels.specs.declared.place.Place.{Place}
use Rattle.peer_channels.specs.declared.line.Line.{Line}
use Rattle.peer_channels.specs.declared.line.Line.TheVariants.{Empty, One, EmptyBeside, OneBeside}

-- the messages, and for how many more there is memory
pub record QueueState (M : Type 0) : Type 0 where
  pub list : List M
  pub room : ℕ

abbrev pub no_queue : {M : Type 0} → QueueState M
no_queue = record { list = []; room = 0 }

-- a queue, and the place of the one at the far end of its link
pub record Slot (M : Type 0) : Type 0 where
  pub queue : QueueState M
  pub far : ℕ

-- one message more, the last
abbrev pub pushed : {M : Type 0} → QueueState M → M → QueueState M
pushed q m = record { list = q.list ++ m ∷ []; room = q.room - 1 }

-- without the first message, whose place is free
abbrev pub without_first : {M : Type 0} → List M → ℕ → QueueState M
without_first [] r = record { list = []; room = r }
without_first (m ∷ ms) r = record { list = ms; room = r + 1 }

abbrev pub taken : {M : Type 0} → QueueState M → QueueState M
taken q = without_first q.list q.room

-- how many messages these are
abbrev pub counted : {M : Type 0} → Option M → ℕ
counted None = 0
counted (Some m) = 1

-- the first message behind the others
abbrev pub rotated : {M : Type 0} → List M → List M
rotated [] = []
rotated (m ∷ ms) = ms ++ m ∷ []

abbrev pub requeued : {M : Type 0} → QueueState M → QueueState M
requeued q = record { list = rotated q.list; room = q.room }

-- what waits in a line, and the room beside it
abbrev pub in_line : {M : Type 0} → Line M → QueueState M
in_line (Empty f) = record { list = []; room = 1 }
in_line (One f m) = record { list = m ∷ []; room = 0 }
in_line (EmptyBeside f b) = record { list = []; room = deque_capacity b.value - deque_len b.value + 1 }
in_line (OneBeside f m b) = record { list = m ∷ b.value.items; room = deque_capacity b.value - deque_len b.value }

-- the number that three bytes say, the lowest first
abbrev pub place_in : Place → ℕ
place_in p = p.low + 256 * p.middle + 65536 * p.high

-- the place that stands in a line
abbrev pub far_of_line : {M : Type 0} → Line M → ℕ
far_of_line (Empty f) = place_in f
far_of_line (One f m) = place_in f
far_of_line (EmptyBeside f b) = place_in f
far_of_line (OneBeside f m b) = place_in f

-- nothing waits behind no message
abbrev pub IsLine : {M : Type 0} → Line M → Type 0
IsLine (Empty f) = Unit {0}
IsLine (One f m) = Unit {0}
IsLine (EmptyBeside f b) = b.value.items ≡ []
IsLine (OneBeside f m b) = Unit {0}
