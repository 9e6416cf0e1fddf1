-- Runs whose events a schedule picks.
use Rattle.std.specs.Prelude.{◌≡◌, ℕ, ◌<◌, ◌≤◌, ◌⊎◌, Bool, List, [], ◌∷◌, ◌++◌, filter, length, take}
use Rattle.ghs_graph.specs.Graph.{Shape}
use Rattle.peer_network.specs.declared.event.Event.{Event}
use Rattle.ghs_protocol.specs.Marks.{HasEnded}
use Rattle.ghs_protocol.specs.Net.{is_lawful_under}
use Rattle.peer_network.specs.Network.{network_of}
use Rattle.ghs_protocol.specs.Run.{net_after}
use Rattle.peer_index.specs.Places.{all_events}
use Rattle.peer_schedule.specs.Picks.{IsPick, PicksAgree}
use Rattle.peer_schedule.specs.Schedule.{next_of}

-- the lawful events of the net after a trace, by node, Wake before ports, ports rising
abbrev pub lawful_events : (ℕ → Bool) → Shape → List Event → List Event
lawful_events may g es = filter (is_lawful_under may (network_of g) (net_after g es)) (all_events (network_of g))

-- which events a schedule picks from after a trace
abbrev pub Offers : Type 0
Offers = (ℕ → Bool) → Shape → List Event → List Event

-- A schedule has picked the events by which a trace has grown, and has this state then: each where the run hadn't ended and turns were left,
-- of the events that were offered there.
pub data IsPickedAmong (offers : Offers) (may : ℕ → Bool) (g : Shape) (turns : ℕ) (trace : List Event) (words : List ℕ)
    : List Event → List ℕ → Type 0 where
  Begun : IsPickedAmong offers may g turns trace words trace words
  Picked : (es : List Event) (s : List ℕ) (e : Event) → IsPickedAmong offers may g turns trace words es s →
      (HasEnded g (net_after g es) → ⊥) → length es < turns → IsPick (offers may g es) s e →
      IsPickedAmong offers may g turns trace words (es ++ e ∷ []) (next_of s)

-- it has picked each of the events that were lawful there
abbrev pub IsPicked : (ℕ → Bool) → Shape → ℕ → List Event → List ℕ → List Event → List ℕ → Type 0
IsPicked may g turns trace words es s = IsPickedAmong lawful_events may g turns trace words es s

-- nothing more is picked: the run has ended, no turn is left, or no event is lawful
abbrev pub IsOver : (ℕ → Bool) → Shape → ℕ → List Event → Type 0
IsOver may g turns es = HasEnded g (net_after g es) ⊎ (turns ≤ length es) ⊎ (lawful_events may g es ≡ [])

-- the seeded run from a trace on: all that the schedule picks
pub record IsSeededRun (may : ℕ → Bool) (g : Shape) (turns : ℕ) (trace : List Event) (words : List ℕ) (es : List Event) (s : List ℕ) : Type 0 where
  pub picked : IsPicked may g turns trace words es s
  pub over : IsOver may g turns es

abbrev pub PicksAreOne : Type 0
PicksAreOne =
    (may : ℕ → Bool) (g : Shape) (turns : ℕ) (trace : List Event) (words : List ℕ) (es fs : List Event) (s t : List ℕ) →
    IsPicked may g turns trace words es s → IsPicked may g turns trace words fs t → PicksAgree es fs s t

-- whatever the schedule has picked is the beginning of the seeded run, and there is one such run
pub record IsTheRun (may : ℕ → Bool) (g : Shape) (turns : ℕ) (trace : List Event) (words : List ℕ) (es : List Event) (s : List ℕ) : Type 0 where
  pub begins : (fs : List Event) (t : List ℕ) → IsPicked may g turns trace words fs t → take (length fs) es ≡ fs
  pub one : (fs : List Event) (t : List ℕ) → IsSeededRun may g turns trace words fs t → (fs ≡ es) × (t ≡ s)

abbrev pub SeededRunIsOne : Type 0
SeededRunIsOne =
    (may : ℕ → Bool) (g : Shape) (turns : ℕ) (trace : List Event) (words : List ℕ) (es : List Event) (s : List ℕ) →
    IsSeededRun may g turns trace words es s → IsTheRun may g turns trace words es s
