-- Runs by rounds.
use Rattle.std.specs.Prelude.{◌≡◌, ℕ, suc, ◌<◌, Bool, List, [], ◌∷◌, ◌++◌, length}
use Rattle.ghs_graph.specs.Graph.{Shape}
use Rattle.peer_network.specs.declared.event.Event.{Event}
use Rattle.peer_schedule.specs.Picks.{IsPick}
use Rattle.peer_schedule.specs.Schedule.{next_of}
use Rattle.peer_machine.specs.Rules.{Rules}
use Rattle.peer_runs.specs.Lawful.{lawful_events}
use Rattle.peer_runs.specs.Picks.{IsOver}
use Rattle.peer_picking.specs.Rounds.{events_in}

-- A schedule has picked the events of so many rounds, from the opening on, and has this state then: each where turns were left, of the events of its
-- round; and where a round had none left, and an event might happen yet, the next round began.
pub data IsPickedByRounds {S M : Type 0} (r : Rules S M) (may : ℕ → Bool) (g : Shape) (turns : ℕ) (words : List ℕ)
    : List Event → ℕ → List ℕ → Type 0 where
  Begun : IsPickedByRounds r may g turns words [] 0 words
  Picked : (es : List Event) (n : ℕ) (s : List ℕ) (e : Event) → IsPickedByRounds r may g turns words es n s → length es < turns →
      IsPick (events_in r may g es n) s e → IsPickedByRounds r may g turns words (es ++ e ∷ []) n (next_of s)
  Over : (es : List Event) (n : ℕ) (s : List ℕ) → IsPickedByRounds r may g turns words es n s → length es < turns →
      0 < length (lawful_events r may g es) → events_in r may g es n ≡ [] → IsPickedByRounds r may g turns words es (suc n) s

-- the whole run, from the opening on
pub record IsRoundsRun {S M : Type 0} (r : Rules S M) (may : ℕ → Bool) (g : Shape) (turns : ℕ) (words : List ℕ) (es : List Event) (n : ℕ)
    (s : List ℕ) : Type 0 where
  pub picked : IsPickedByRounds r may g turns words es n s
  pub over : IsOver r may g turns es
