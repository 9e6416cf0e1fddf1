-- What runs by GHS come to: by the schedule of a seed, or by threads; and stored ones that are played again, or told.
use Rattle.std.specs.Prelude.{◌≡◌, ℕ, ◌≤◌, Bool, true, false, List, [], length, Option, None}
use Rattle.ghs_choices.specs.declared.schedule_kind.ScheduleKind.{ScheduleKind}
use Rattle.ghs_choices.specs.declared.schedule_kind.ScheduleKind.TheVariants.{Seeded, Patient, Rounds, Waits, Lifo, RoundRobin}
use Rattle.ghs_commands.specs.declared.job.RunOptions.{RunOptions}
use Rattle.ghs_commands.specs.declared.job.Show.{Show}
use Rattle.ghs_commands.specs.declared.job.Show.TheVariants.{Summary, Events, Time}
use Rattle.ghs_commands.specs.declared.job.StepsOptions.{StepsOptions}
use Rattle.ghs_report.specs.Components.{HasEndedIn}
use Rattle.ghs_report.specs.CoreLines.{HaveLines}
use Rattle.ghs_report.specs.declared.component.Component.{Component}
use Rattle.ghs_graph.specs.Graph.{Shape}
use Rattle.ghs_picking.specs.Laps.{AreLaps}
use Rattle.ghs_picking.specs.Picking.{AreRounds, HasTurnsFor, HasTurnsInTurn, IsPickedBy}
use Rattle.ghs_picking.specs.Time.{IsTimeText}
use Rattle.ghs_picking.specs.declared.laps.LapCount.{LapCount}
use Rattle.ghs_protocol.specs.Marks.{HasEnded}
use Rattle.ghs_protocol.specs.Net.{Net}
use Rattle.ghs_protocol.specs.Run.{IsRunUnder, net_after}
use Rattle.ghs_report.specs.ReportText.{IsReportText}
use Rattle.ghs_sched.specs.Replays.{IsFirstUnlawful}
use Rattle.ghs_steps.specs.Lines.{lines}
use Rattle.ghs_world.specs.WorldState.{WorldState}
use Rattle.peer_network.specs.Network.{network_of}
use Rattle.peer_network.specs.Wakes.{may_wake}
use Rattle.peer_network.specs.declared.event.Event.{Event}
use Rattle.peer_network.specs.declared.wake_set.WakeSet.{WakeSet}
use Rattle.peer_texts.specs.Text.{trace_text}
use Rattle.ghs_answers.specs.declared.fault.ServeFault.{ServeFault}
use Rattle.ghs_answers.specs.declared.fault.ServeFault.TheVariants as serve

-- behind a text the lines of all components with their cores, where they are asked for
abbrev pub HaveCores : Bool → Shape → (Component → Type 0) → List ℕ → List ℕ → Type 0
HaveCores true g holds old new = HaveLines g holds old new
HaveCores false g holds old new = new ≡ old

-- events that are a run of a graph as its options ask: under the wake set, within the turns; without threads the seed's schedule picks them
pub record IsRunBy (o : RunOptions) (g : Shape) (events : List Event) : Type 0 where
  pub run : IsRunUnder (may_wake g o.wake) (network_of g) events
  pub within : length events ≤ o.turns
  pub picked : o.workers ≡ 0 → IsPickedBy o.schedule_kind o.seed o.wake o.turns g events

-- such a run that has ended
pub record IsWholeRun (o : RunOptions) (g : Shape) (events : List Event) : Type 0 where
  pub by : IsRunBy o g events
  pub ended : HasEnded g (net_after g events)

-- and one that has used its turns and hasn't ended
pub record IsStopped (o : RunOptions) (g : Shape) (events : List Event) : Type 0 where
  pub by : IsRunBy o g events
  pub used : length events ≡ o.turns
  pub goes_on : HasEnded g (net_after g events) → ⊥

-- the report of a run that has ended: the text of its net, with the cores with which it ended, where they are asked for
abbrev pub IsReport : Bool → Shape → List Event → List ℕ → Type 0
IsReport core g events output =
    (text : List ℕ) × IsReportText g (net_after g events) text × HaveCores core g (HasEndedIn g (net_after g events)) text output

-- in how many rounds the seed's schedule has picked a run, where it picks by rounds; threads go by none
pub record AreItsRounds (o : RunOptions) (g : Shape) (events : List Event) (rounds : Option ℕ) : Type 0 where
  pub by_schedule : o.workers ≡ 0 → AreRounds o.schedule_kind o.seed o.wake o.turns g events rounds
  pub by_threads : 1 ≤ o.workers → rounds ≡ None

-- in how many laps it went, where the schedule goes by round robin
pub record AreItsLaps (o : RunOptions) (g : Shape) (events : List Event) (laps : Option LapCount) : Type 0 where
  pub by_schedule : o.workers ≡ 0 → AreLaps o.schedule_kind g events laps
  pub by_threads : 1 ≤ o.workers → laps ≡ None

-- the time of a run: its longest chain of messages, and its rounds or laps with the bound on them; and its bits
pub record IsTime (o : RunOptions) (g : Shape) (events : List Event) (output : List ℕ) : Type 0 where
  pub rounds : Option ℕ
  pub are_rounds : AreItsRounds o g events rounds
  pub laps : Option LapCount
  pub are_laps : AreItsLaps o g events laps
  pub text : IsTimeText o.wake g events rounds laps output

-- what is shown of a run that has ended: its report, its events, or its time
abbrev pub IsShown : Show → RunOptions → Shape → List Event → List ℕ → Type 0
IsShown Summary o g events output = IsReport o.core g events output
IsShown Events o g events output = output ≡ trace_text events
IsShown Time o g events output = IsTime o g events output

-- a run of the graph ends, and the output shows it
pub record IsRun (o : RunOptions) (g : Shape) (output : List ℕ) : Type 0 where
  pub events : List Event
  pub whole : IsWholeRun o g events
  pub printed : IsShown o.show o g events output

-- a run of the graph has used its turns, and the output has its events, which are asked for
pub record IsStoppedText (o : RunOptions) (g : Shape) (output : List ℕ) : Type 0 where
  pub events : List Event
  pub stopped : IsStopped o g events
  pub asked : o.show ≡ Events
  pub printed : output ≡ trace_text events

-- what goes out of a run of a graph, where it ends, and where its turns are used (true)
abbrev pub IsRan : RunOptions → Shape → Bool → List ℕ → Type 0
IsRan o g false output = IsRun o g output
IsRan o g true output = IsStoppedText o g output

-- why a run of a graph doesn't end well: its turns are used, or threads fail; an event is always ready, and each has a rule
abbrev pub StopsRun : RunOptions → Shape → ServeFault → Type 0
StopsRun o g serve.TurnLimit = (events : List Event) × IsStopped o g events
StopsRun o g serve.Memory = Unit {0}
StopsRun o g serve.NoThread = 1 ≤ o.workers
StopsRun o g serve.Strange = 1 ≤ o.workers
StopsRun o g _ = ⊥

-- Some schedules have runs with a bound on their events, since what moves a run on comes first in some order, or each port has its turn; and there
-- are turns for so many.
abbrev pub HasTurnsBy : ScheduleKind → Shape → ℕ → Type 0
HasTurnsBy Seeded g turns = ⊥
HasTurnsBy Patient g turns = HasTurnsFor g turns
HasTurnsBy Rounds g turns = HasTurnsFor g turns
HasTurnsBy Waits g turns = ⊥
HasTurnsBy Lifo g turns = HasTurnsFor g turns
HasTurnsBy RoundRobin g turns = HasTurnsInTurn g turns

-- without threads, by such a schedule, with turns for all the events that it may have
pub record IsBounded (o : RunOptions) (g : Shape) : Type 0 where
  pub alone : o.workers ≡ 0
  pub turns : HasTurnsBy o.schedule_kind g o.turns

-- a world before its run, as options ask
pub record IsOpened (o : RunOptions) (s : WorldState) : Type 0 where
  pub trace : s.net.trace ≡ []
  pub last : s.last ≡ 0
  pub wake : s.wake ≡ o.wake
  pub turns : s.turns ≡ o.turns

-- why its run stops before its end, in the world that it leaves: where the turns are used, it is this world's run that has used them
pub record Stops (o : RunOptions) (s : WorldState) (fault : ServeFault) : Type 0 where
  pub cause : StopsRun o s.net.graph fault
  pub used : fault ≡ serve.TurnLimit → IsStopped o s.net.graph s.net.trace

-- events that are a run of the graph which has ended, and the output is the text of its net
pub record IsReplayed (wake : WakeSet) (g : Shape) (events : List Event) (output : List ℕ) : Type 0 where
  pub run : IsRunUnder (may_wake g wake) (network_of g) events
  pub ended : HasEnded g (net_after g events)
  pub printed : IsReportText g (net_after g events) output

-- why a net has no text: its run goes on
abbrev pub GoesOn : Shape → Net → ServeFault → Type 0
GoesOn g w serve.NotEnded = HasEnded g w → ⊥
GoesOn g w serve.Memory = Unit {0}
GoesOn g w _ = ⊥

-- these events and this graph give this fault: the first event that isn't lawful, or a run that hasn't ended
abbrev pub IsRunCause : WakeSet → Shape → List Event → ServeFault → Type 0
IsRunCause wake g events (serve.NotLawful k) = IsFirstUnlawful g wake events k
IsRunCause wake g events serve.NotEnded = IsRunUnder (may_wake g wake) (network_of g) events × (HasEnded g (net_after g events) → ⊥)
IsRunCause wake g events serve.Memory = Unit {0}
IsRunCause wake g events _ = ⊥

-- events that are a run of the graph, and the output is the lines of those that are chosen
pub record AreSteps (o : StepsOptions) (g : Shape) (events : List Event) (output : List ℕ) : Type 0 where
  pub run : IsRunUnder (may_wake g o.wake) (network_of g) events
  pub printed : output ≡ lines o.form g events o.choice
