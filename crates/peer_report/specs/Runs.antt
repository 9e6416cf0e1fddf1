-- Runs of a graph whose events a seed's schedule picks.
use Rattle.std.specs.Prelude.{◌≡◌, ℕ, ◌+◌, ◌<◌, ◌≤◌, Bool, length, List, []}
use Rattle.ghs_choices.specs.declared.schedule_kind.ScheduleKind.{ScheduleKind}
use Rattle.ghs_choices.specs.declared.schedule_kind.ScheduleKind.TheVariants.{Lifo, Patient, RoundRobin, Rounds, Seeded, Waits}
use Rattle.ghs_graph.specs.Graph.{Shape, IsGraph}
use Rattle.peer_network.specs.declared.event.Event.{Event}
use Rattle.peer_network.specs.Network.{network_of}
use Rattle.peer_schedule.specs.Schedule.{seeded}
use Rattle.peer_network.specs.declared.wake_set.WakeSet.{WakeSet}
use Rattle.peer_network.specs.Wakes.{may_wake}
use Rattle.peer_machine.specs.Rules.{Rules}
use Rattle.peer_machine.specs.Net.{Net}
use Rattle.peer_machine.specs.Run.{IsRunUnder, net_after}
use Rattle.peer_picking.specs.LifoPicks.{IsPickedLast}
use Rattle.peer_picking.specs.Picks.{IsPickedByRounds}
use Rattle.peer_runs.specs.Lawful.{lawful_events}
use Rattle.peer_runs.specs.Picks.{IsPicked}
use Rattle.peer_runs.specs.WorldState.{WorldState, wakers}
use Rattle.peer_report.specs.declared.run.RunEnd.{RunEnd}
use Rattle.peer_report.specs.declared.run.RunEnd.TheVariants.{Ended, Stopped}

-- The events that a schedule's words pick of a graph, from the opening on, and the words that are left. No message is deferred, so each event moves
-- the run on: a patient run is the seeded one, and so is one that prefers what waits. There is no run by round robin: it is the seeded one too.
abbrev pub IsPickedBy : {S M : Type 0} → ScheduleKind → Rules S M → (ℕ → Bool) → Shape → ℕ → List ℕ → List Event → List ℕ → Type 0
IsPickedBy Seeded r may g turns words events after = IsPicked r may g turns [] words events after
IsPickedBy Patient r may g turns words events after = IsPicked r may g turns [] words events after
IsPickedBy Rounds r may g turns words events after = (rounds : ℕ) × IsPickedByRounds r may g turns words events rounds after
IsPickedBy Waits r may g turns words events after = IsPicked r may g turns [] words events after
IsPickedBy Lifo r may g turns words events after = IsPickedLast r may g turns [] words events after
IsPickedBy RoundRobin r may g turns words events after = IsPicked r may g turns [] words events after

-- a world has run on from its opening: graph and wake set stay, and the words have picked its events
pub record HasRunBy {S M : Type 0} (kind : ScheduleKind) (r : Rules S M) (turns : ℕ) (old new : WorldState) (words after : List ℕ) : Type 0 where
  pub graph : new.net.graph ≡ old.net.graph
  pub wake : new.wake ≡ old.wake
  pub picked : IsPickedBy kind r (wakers old) old.net.graph turns words new.net.trace after

module _ {S M : Type 0} (r : Rules S M) (has_ended : Shape → Net S M → Type 0) where
  module _ (kind : ScheduleKind) (seed : ℕ) (wake : WakeSet) (turns : ℕ) (g : Shape) where
    -- a run under the wake set, each of whose events the seed's schedule has picked where turns were left
    pub record IsRunBy (events : List Event) : Type 0 where
      pub graph : IsGraph g
      pub run : IsRunUnder r (may_wake g wake) (network_of g) events
      pub words : List ℕ
      pub picked : IsPickedBy kind r (may_wake g wake) g turns (seeded seed) events words

    -- such a run that has ended
    pub record IsWholeRun (events : List Event) : Type 0 where
      pub by : IsRunBy events
      pub ended : has_ended g (net_after r g events)

    -- and one that has used its turns and hasn't ended: an event may happen yet
    pub record IsStopped (events : List Event) : Type 0 where
      pub by : IsRunBy events
      pub used : turns ≤ length events
      pub more : 0 < length (lawful_events r (may_wake g wake) g events)
      pub goes_on : has_ended g (net_after r g events) → ⊥

    -- the events are a whole run, or one that has used its turns
    abbrev pub IsRunThatEnds : List Event → RunEnd → Type 0
    IsRunThatEnds events Ended = IsWholeRun events
    IsRunThatEnds events Stopped = IsStopped events

    -- a world of the graph under the wake set, after such a run
    abbrev pub IsRan : WorldState → RunEnd → Type 0
    IsRan w end = (w.net.graph ≡ g) × IsRunThatEnds w.net.trace end × (w.wake ≡ wake)

  -- with turns for all messages that may be sent and all nodes a run is whole
  abbrev pub TurnsSuffice : (Shape → ℕ) → Type 0
  TurnsSuffice bound =
      (kind : ScheduleKind) (seed : ℕ) (wake : WakeSet) (turns : ℕ) (g : Shape) (events : List Event) → bound g + g.nodes ≤ turns →
      IsStopped kind seed wake turns g events → ⊥
