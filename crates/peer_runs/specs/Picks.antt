-- Runs whose events a schedule picks.
use Rattle.std.specs.Prelude.{◌≡◌, ℕ, ◌<◌, ◌≤◌, ◌⊎◌, Bool, List, [], ◌∷◌, ◌++◌, length, take}
use Rattle.ghs_graph.specs.Graph.{Shape}
use Rattle.peer_network.specs.declared.event.Event.{Event}
use Rattle.peer_schedule.specs.Picks.{IsPick, PicksAgree}
use Rattle.peer_schedule.specs.Schedule.{next_of}
use Rattle.peer_machine.specs.Rules.{Rules}
use Rattle.peer_runs.specs.Lawful.{lawful_events}

-- A schedule has picked the events by which a trace has grown, and has this state then: each where turns were left, of the events that were lawful
-- there.
pub data IsPicked {S M : Type 0} (r : Rules S M) (may : ℕ → Bool) (g : Shape) (turns : ℕ) (trace : List Event) (words : List ℕ)
    : List Event → List ℕ → Type 0 where
  Begun : IsPicked r may g turns trace words trace words
  Picked : (es : List Event) (s : List ℕ) (e : Event) → IsPicked r may g turns trace words es s → length es < turns →
      IsPick (lawful_events r may g es) s e → IsPicked r may g turns trace words (es ++ e ∷ []) (next_of s)

module _ {S M : Type 0} (r : Rules S M) (may : ℕ → Bool) (g : Shape) (turns : ℕ) where
  -- nothing more is picked: no turn is left, or no event is lawful
  abbrev pub IsOver : List Event → Type 0
  IsOver es = (turns ≤ length es) ⊎ (lawful_events r may g es ≡ [])

  module _ (trace : List Event) (words : List ℕ) where
    -- the seeded run from a trace on: all that the schedule picks
    pub record IsSeededRun (es : List Event) (s : List ℕ) : Type 0 where
      pub picked : IsPicked r may g turns trace words es s
      pub over : IsOver es

    -- whatever the schedule has picked is the beginning of this run, and there is one such run
    pub record IsTheRun (es : List Event) (s : List ℕ) : Type 0 where
      pub begins : (fs : List Event) (t : List ℕ) → IsPicked r may g turns trace words fs t → take (length fs) es ≡ fs
      pub one : (fs : List Event) (t : List ℕ) → IsSeededRun fs t → (fs ≡ es) × (t ≡ s)

-- what a schedule picks is one list
abbrev pub PicksAreOne : {S M : Type 0} → Rules S M → Type 0
PicksAreOne r =
    (may : ℕ → Bool) (g : Shape) (turns : ℕ) (trace : List Event) (words : List ℕ) (es fs : List Event) (s t : List ℕ) →
    IsPicked r may g turns trace words es s → IsPicked r may g turns trace words fs t → PicksAgree es fs s t

abbrev pub SeededRunIsOne : {S M : Type 0} → Rules S M → Type 0
SeededRunIsOne r =
    (may : ℕ → Bool) (g : Shape) (turns : ℕ) (trace : List Event) (words : List ℕ) (es : List Event) (s : List ℕ) →
    IsSeededRun r may g turns trace words es s → IsTheRun r may g turns trace words es s
