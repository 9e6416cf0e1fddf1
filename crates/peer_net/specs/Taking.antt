-- The message that an event takes.
use Rattle.std.specs.Prelude.{◌≡◌, ℕ, ◌<◌, Bool, false, List, ◌∷◌, length}
use Rattle.peer_network.specs.declared.event.Event.{Event}
use Rattle.peer_network.specs.declared.event.Event.TheVariants.{Wake, Take}
use Rattle.peer_channels.specs.Channels.{ChannelsState, HasQueue, Changes, queue_at, state_at}
use Rattle.peer_machine.specs.Rules.{Rules}
use Rattle.peer_net.specs.declared.counts.Counts.{Counts}
use Rattle.peer_net.specs.Counts.{CountsTake}
use Rattle.peer_net.specs.Queues.{after_first}

-- the event consumes a message: it takes one that isn't deferred
abbrev pub Consumes : Bool → Event → Type 0
Consumes later (Wake v) = ⊥
Consumes later (Take v p) = later ≡ false

-- a message waits where the event takes one
abbrev pub WaitsAt : {M : Type 0} → Event → ChannelsState M → Type 0
WaitsAt (Wake v) l = Unit {0}
WaitsAt (Take v p) l = HasQueue l v p × (0 < length (queue_at l v p))

-- the first message m is gone, or at the end if it is deferred, and counted
pub record TakesFirst {S M : Type 0} (r : Rules S M) (later : Bool) (v p : ℕ) (m : M) (old new : ChannelsState M) (c c' : Counts) : Type 0 where
  pub queues : Changes old new v p (after_first later (state_at old v p))
  pub counts : CountsTake r later m c c'

-- what an event takes
abbrev pub TakesIn : {S M : Type 0} → Rules S M → Bool → Event → ChannelsState M → ChannelsState M → Counts → Counts → Type 0
TakesIn r later (Wake v) old new c c' = (new ≡ old) × (c' ≡ c)
TakesIn {S} {M} r later (Take v p) old new c c' =
    (m : M) (ms : List M) → queue_at old v p ≡ m ∷ ms → TakesFirst r later v p m old new c c'
