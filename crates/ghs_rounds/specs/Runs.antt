-- Runs by rounds: which events belong to which round, and what they leave of a world and a schedule.
use Rattle.std.specs.Prelude.{◌≡◌, ℕ, suc, Bool, ◌+◌, ◌<◌, List, [], ◌∷◌, ◌++◌, length}
use Rattle.ghs_graph.specs.Graph.{Shape}
use Rattle.peer_network.specs.declared.event.Event.{Event}
use Rattle.ghs_protocol.specs.Marks.{HasEnded}
use Rattle.ghs_protocol.specs.Run.{net_after}
use Rattle.ghs_world.specs.Steps.{Makes}
use Rattle.ghs_world.specs.WorldState.{WorldState, wakers}
use Rattle.peer_schedule.specs.Picks.{IsPick}
use Rattle.peer_schedule.specs.Schedule.{next_of}
use Rattle.ghs_rounds.specs.Choices.{RoundsState, events_of}
use Rattle.ghs_rounds.specs.Rounds.{events_in}

-- A schedule has picked the events of so many rounds, and has this state then: each where the run hadn't ended and turns were left, of the events of
-- its round; and where a round had none left, and the run hadn't ended, the next round began. Round 0 has the wakes.
pub data IsPickedByRounds (may : ℕ → Bool) (g : Shape) (turns : ℕ) (words : List ℕ) : List Event → ℕ → List ℕ → Type 0 where
  Begun : IsPickedByRounds may g turns words [] 0 words
  Picked : (es : List Event) (r : ℕ) (s : List ℕ) (e : Event) → IsPickedByRounds may g turns words es r s →
      (HasEnded g (net_after g es) → ⊥) → length es < turns → IsPick (events_in may g es r) s e →
      IsPickedByRounds may g turns words (es ++ e ∷ []) r (next_of s)
  Over : (es : List Event) (r : ℕ) (s : List ℕ) → IsPickedByRounds may g turns words es r s →
      (HasEnded g (net_after g es) → ⊥) → length es < turns → events_in may g es r ≡ [] →
      IsPickedByRounds may g turns words es (suc r) s

-- A world has run from its opening on by rounds: graph, wake set and turns stay, nothing is out, each event has used one ticket number, and the
-- schedule has picked the trace, in so many rounds, and no more.
pub record HasRun (old new : WorldState) (words after : List ℕ) (rounds : ℕ) : Type 0 where
  pub graph : new.net.graph ≡ old.net.graph
  pub wake : new.wake ≡ old.wake
  pub turns : new.turns ≡ old.turns
  pub outs : new.outs ≡ []
  pub numbers : new.last ≡ old.last + length new.net.trace
  pub picked : IsPickedByRounds (wakers old) old.net.graph old.turns words new.net.trace rounds after

-- the next word has picked one of the events of the round, and it has happened
pub record HasMadeNext (old new : WorldState) (before : RoundsState) (words after : List ℕ) : Type 0 where
  pub event : Event
  pub pick : IsPick (events_of old before.clock) words event
  pub made : Makes old event new
  pub rest : after ≡ next_of words
