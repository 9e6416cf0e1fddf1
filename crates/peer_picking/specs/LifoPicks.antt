-- Runs that take first what was sent last.
use Rattle.std.specs.Prelude.{◌≡◌, ℕ, ◌<◌, ◌≤◌, Bool, List, [], ◌∷◌, ◌++◌, length, take}
use Rattle.ghs_graph.specs.Graph.{Shape}
use Rattle.peer_network.specs.declared.event.Event.{Event}
use Rattle.peer_network.specs.Network.{network_of}
use Rattle.peer_schedule.specs.Picks.{IsPick}
use Rattle.peer_schedule.specs.Schedule.{next_of}
use Rattle.peer_machine.specs.Rules.{Rules}
use Rattle.peer_machine.specs.Run.{net_after}
use Rattle.peer_runs.specs.Lawful.{lawful_events}
use Rattle.peer_runs.specs.Picks.{IsOver}
use Rattle.peer_picking.specs.Latest.{IsLatest, NoTake}
use Rattle.peer_picking.specs.Newest.{newest_of}

-- The events by which a trace has grown, and the schedule's state then. Each happened where turns were left: the Take at the port to which a message
-- was sent last, of those at which one waits, with no word of the schedule; where there was none, the wake that the next word picked.
pub data IsPickedLast {S M : Type 0} (r : Rules S M) (may : ℕ → Bool) (g : Shape) (turns : ℕ) (trace : List Event) (words : List ℕ)
    : List Event → List ℕ → Type 0 where
  Begun : IsPickedLast r may g turns trace words trace words
  Latest : (es : List Event) (s : List ℕ) (e : Event) → IsPickedLast r may g turns trace words es s → length es < turns →
      IsLatest r (network_of g) (net_after r g es) (newest_of r (network_of g) es) e → IsPickedLast r may g turns trace words (es ++ e ∷ []) s
  Picked : (es : List Event) (s : List ℕ) (e : Event) → IsPickedLast r may g turns trace words es s → length es < turns →
      NoTake r (network_of g) (net_after r g es) → IsPick (lawful_events r may g es) s e →
      IsPickedLast r may g turns trace words (es ++ e ∷ []) (next_of s)

module _ {S M : Type 0} (r : Rules S M) (may : ℕ → Bool) (g : Shape) (turns : ℕ) (trace : List Event) (words : List ℕ) where
  -- the whole run from a trace on
  pub record IsLifoRun (es : List Event) (s : List ℕ) : Type 0 where
    pub picked : IsPickedLast r may g turns trace words es s
    pub over : IsOver r may g turns es

  -- whatever is picked so is the beginning of this run, and there is one such run
  pub record IsTheLifoRun (es : List Event) (s : List ℕ) : Type 0 where
    pub begins : (fs : List Event) (t : List ℕ) → IsPickedLast r may g turns trace words fs t → take (length fs) es ≡ fs
    pub one : (fs : List Event) (t : List ℕ) → IsLifoRun fs t → (fs ≡ es) × (t ≡ s)

-- there is one latest Take at most
abbrev pub LatestIsOne : {S M : Type 0} → Rules S M → Type 0
LatestIsOne r =
    (g : Shape) (es : List Event) (e f : Event) → IsLatest r (network_of g) (net_after r g es) (newest_of r (network_of g) es) e →
    IsLatest r (network_of g) (net_after r g es) (newest_of r (network_of g) es) f → e ≡ f

-- what is picked so is one list
abbrev pub LifoPicksAreOne : {S M : Type 0} → Rules S M → Type 0
LifoPicksAreOne r =
    (may : ℕ → Bool) (g : Shape) (turns : ℕ) (trace : List Event) (words : List ℕ) (es fs : List Event) (s t : List ℕ) →
    IsPickedLast r may g turns trace words es s → IsPickedLast r may g turns trace words fs t → length es ≤ length fs → take (length es) fs ≡ es

abbrev pub LifoRunIsOne : {S M : Type 0} → Rules S M → Type 0
LifoRunIsOne r =
    (may : ℕ → Bool) (g : Shape) (turns : ℕ) (trace : List Event) (words : List ℕ) (es : List Event) (s : List ℕ) →
    IsLifoRun r may g turns trace words es s → IsTheLifoRun r may g turns trace words es s
