-- What is kept of a world and a clock from event to event, so that a pick of a round needs no look over all events.
use Rattle.std.specs.Prelude.{◌≡◌, ◌⊎◌, ℕ, suc, ◌<◌, ◌≤◌, Bool, List, [], ◌++◌, length, slice_set}
use Rattle.std.specs.List.{All, Contains}
use Rattle.peer_network.specs.declared.event.Event.{Event}
use Rattle.peer_network.specs.declared.event.Event.TheVariants.{Wake, Take}
use Rattle.peer_network.specs.Network.{Network}
use Rattle.ghs_core.specs.NetState.{network}
use Rattle.ghs_flags.specs.Flags.{at}
use Rattle.peer_index.specs.Index.{IndexState, IsFor, IsIndexOf}
use Rattle.peer_index.specs.Places.{HasPlace, place}
use Rattle.ghs_world.specs.WorldState.{WorldState, home, wakers}
use Rattle.ghs_node.specs.declared.delta.Delta.{Delta}
use Rattle.peer_network.specs.Events.{event_node}
use Rattle.ghs_following.specs.Chains.{reacted}
use Rattle.peer_chains.specs.Kept.{SamePlaces, seen}
use Rattle.ghs_following.specs.Kept.{AreChains}
use Rattle.ghs_patient.specs.Choices.{far_takes}
use Rattle.ghs_patient.specs.Walks.{on_each, on_takes}
use Rattle.ghs_rounds.specs.Clock.{ClockState}
use Rattle.ghs_rounds.specs.Rounds.{hides_due, moves_due, round_events}

abbrev pub moves_in : WorldState → ClockState → Event → Bool
moves_in s k e = moves_due (wakers s) (network s.net) (home s) (seen k.kept) k.round e

abbrev pub hides_in : WorldState → ClockState → Event → Bool
hides_in s k e = hides_due (home s) (seen k.kept) k.round e

abbrev pub events_of : WorldState → ClockState → List Event
events_of s k = round_events (wakers s) (network s.net) (home s) (seen k.kept) k.round

-- an index of the due events that move a run on, and one of those that put a message back before one that is due
pub record ChoicesState : Type 0 where
  pub moving : IndexState
  pub hidden : IndexState

-- they are those of a world and a clock
pub record AreChoices (s : WorldState) (k : ClockState) (c : ChoicesState) : Type 0 where
  pub moving : IsIndexOf (network s.net) (moves_in s k) c.moving
  pub hidden : IsIndexOf (network s.net) (hides_in s k) c.hidden

-- they have a mark for each of its events
pub record AreFor (g : Network) (c : ChoicesState) : Type 0 where
  pub moving : IsFor g c.moving
  pub hidden : IsFor g c.hidden

-- they are those of the world and the clock, but perhaps for some events
pub record AreChoicesBut (s : WorldState) (k : ClockState) (wrong : Event → Type 0) (c : ChoicesState) : Type 0 where
  pub for_all : AreFor (network s.net) c
  pub moving : (e : Event) → HasPlace (network s.net) e → (wrong e → ⊥) → at c.moving.marks (place (network s.net) e) ≡ moves_in s k e
  pub hidden : (e : Event) → HasPlace (network s.net) e → (wrong e → ⊥) → at c.hidden.marks (place (network s.net) e) ≡ hides_in s k e

-- the choices with the right marks of one event
abbrev pub marked : WorldState → ClockState → Event → ChoicesState → ChoicesState
marked s k e c = record {
  moving = record c.moving { marks = slice_set c.moving.marks (place (network s.net) e) (moves_in s k e) };
  hidden = record c.hidden { marks = slice_set c.hidden.marks (place (network s.net) e) (hides_in s k e) };
}

-- of the Takes at the first ports of a node
abbrev pub marked_to : WorldState → ClockState → ℕ → ℕ → ChoicesState → ChoicesState
marked_to s k v n c = on_takes (marked s k) v n c

-- of several events
abbrev pub marked_all : WorldState → ClockState → List Event → ChoicesState → ChoicesState
marked_all s k es c = on_each (marked s k) es c

-- what waits where the event takes was sent before the round, all of it
abbrev pub IsPast : ClockState → Event → Type 0
IsPast k (Wake v) = Unit {0}
IsPast k (Take v p) = All (λ t. t ≤ k.round) ((seen k.kept).queue v p)

-- a clock, its choices, and the Takes of what was sent within the round
pub record RoundsState : Type 0 where
  pub clock : ClockState
  pub choices : ChoicesState
  pub fresh : List Event

-- no node's number is greater than the round, and no message's than the next
pub record AreByRound (k : ClockState) : Type 0 where
  pub node : (v : ℕ) → (seen k.kept).node v ≤ k.round
  pub queue : (v p : ℕ) → All (λ t. t ≤ suc k.round) ((seen k.kept).queue v p)

-- they are those of a world
pub record AreRounds (s : WorldState) (x : RoundsState) : Type 0 where
  pub chains : AreChains s.net x.clock.kept
  pub by_round : AreByRound x.clock
  pub choices : AreChoices s x.clock x.choices
  pub places : (f : Event) → Contains x.fresh f → HasPlace (network s.net) f
  pub past : (f : Event) → HasPlace (network s.net) f → (Contains x.fresh f → ⊥) → IsPast x.clock f

-- the clock has heard of an event that is to happen, and what will be sent is noted
pub record HasHeard (s : WorldState) (e : Event) (d : Delta) (old new : RoundsState) : Type 0 where
  pub round : new.clock.round ≡ old.clock.round
  pub places : SamePlaces old.clock.kept new.clock.kept
  pub chains : seen new.clock.kept ≡ reacted (network s.net) (home s) e d (seen old.clock.kept)
  pub choices : new.choices ≡ old.choices
  pub fresh : new.fresh ≡ old.fresh ++ far_takes (network s.net) (event_node e) d.sends

-- the same clock, or the next round's where the round had no event left
abbrev pub IsNextClock : WorldState → ClockState → ClockState → Type 0
IsNextClock s old new = (new ≡ old) ⊎ ((new ≡ record old { round = suc old.round }) × (events_of s old ≡ []))

-- the round has an event: it is the same, or the next where it had none
pub record HasSettled (s : WorldState) (old new : RoundsState) : Type 0 where
  pub rounds : AreRounds s new
  pub some : 0 < length (events_of s new.clock)
  pub clock : IsNextClock s old.clock new.clock
