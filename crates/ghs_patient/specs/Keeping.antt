-- Runs by what is kept of a world from event to event.
use Rattle.std.specs.Prelude.{◌≡◌, ℕ, true, List}
use Rattle.ghs_graph.specs.Graph.{IsGraph}
use Rattle.ghs_node.specs.declared.delta.Delta.{Delta}
use Rattle.ghs_node.specs.declared.head.Head.{Head}
use Rattle.peer_network.specs.declared.event.Event.{Event}
use Rattle.ghs_protocol.specs.Marks.{HasEnded}
use Rattle.ghs_protocol.specs.Run.{IsRun}
use Rattle.ghs_core.specs.NetState.{IsAnswer, IsLawful, event_node, network}
use Rattle.ghs_world.specs.Steps.{IsSameWorld, Makes}
use Rattle.ghs_world.specs.WorldState.{WorldState, has_turn, home, wakers}
use Rattle.ghs_sched.specs.Picks.{Offers}
use Rattle.peer_schedule.specs.Picks.{IsPick}
use Rattle.peer_schedule.specs.Schedule.{next_of}

-- the next word picks the event of these, and leaves the words behind it
abbrev pub IsByWord : List Event → List ℕ → Event → List ℕ → Type 0
IsByWord events words e after = IsPick events words e × (after ≡ next_of words)

-- it picks it of the events that are offered in a world
abbrev pub IsNextAmong : Offers → WorldState → List ℕ → Event → List ℕ → Type 0
IsNextAmong offers s words e after = IsByWord (offers (wakers s) s.net.graph s.net.trace) words e after

-- the next event of a world has happened
pub record HasGoneOn (is_next : WorldState → List ℕ → Event → List ℕ → Type 0) (old new : WorldState) (words after : List ℕ) : Type 0 where
  pub event : Event
  pub next : is_next old words event after
  pub made : Makes old event new

-- The next events of a world have happened, one after another, each where the run hadn't ended and a turn was left; and it may have more room now.
pub data HasGone (is_next : WorldState → List ℕ → Event → List ℕ → Type 0) (old : WorldState) (words : List ℕ) : WorldState → List ℕ → Type 0 where
  Begun : HasGone is_next old words old words
  Then : (s new : WorldState) (used after : List ℕ) → HasGone is_next old words s used → (HasEnded s.net.graph (home s) → ⊥) → has_turn s ≡ true →
      HasGoneOn is_next s new used after → HasGone is_next old words new after
  Stayed : (s new : WorldState) (used : List ℕ) → HasGone is_next old words s used → IsSameWorld s new → HasGone is_next old words new used

-- a node whose head was this one has answered an event so, which has happened
pub record HasAnswered (old new : WorldState) (e : Event) (before : Head) (d : Delta) : Type 0 where
  pub graph : IsGraph old.net.graph
  pub run : IsRun (network old.net) old.net.trace
  pub lawful : IsLawful old.net e
  pub head : before ≡ ((home old).node (event_node e)).head
  pub answer : IsAnswer old.net e d
  pub made : Makes old e new
