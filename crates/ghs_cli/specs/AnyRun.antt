-- What running a network by any protocol comes to, and playing a stored run of it again. Of the options of a run its
-- schedule, seed, wake set, turns and what is shown are taken; the others go with GHS alone.
use Rattle.std.specs.Prelude.{◌≡◌, ℕ, ◌+◌, ◌≤◌, Bool, true, false, List}
use Rattle.ghs_choices.specs.declared.schedule_kind.ScheduleKind.{ScheduleKind}
use Rattle.ghs_graph.specs.declared.key.Key.{Key}
use Rattle.ghs_graph.specs.Graph.{Shape}
use Rattle.peer_network.specs.declared.event.Event.{Event}
use Rattle.peer_network.specs.declared.wake_set.WakeSet.{WakeSet}
use Rattle.peer_network.specs.Network.{network_of}
use Rattle.peer_network.specs.Wakes.{may_wake}
use Rattle.peer_machine.specs.Net.{Net}
use Rattle.peer_machine.specs.Rules.{Rules}
use Rattle.peer_machine.specs.Run.{IsRunUnder, net_after}
use Rattle.peer_report.specs.ReportText.{IsReportText}
use Rattle.peer_report.specs.Runs.{IsStopped, IsWholeRun}
use Rattle.peer_runs.specs.Replays.{IsFirstUnlawful}
use Rattle.peer_trace.specs.Text.{stored_text}
use Rattle.peer_trace.specs.declared.protocol.Protocol.{Protocol}
use Rattle.ghs_commands.specs.declared.job.RunOptions.{RunOptions}
use Rattle.ghs_commands.specs.declared.job.Show.{Show}
use Rattle.ghs_commands.specs.declared.job.Show.TheVariants.{Summary, Events, Time}
use Rattle.ghs_answers.specs.Timing.{timed_text}
use Rattle.ghs_answers.specs.declared.fault.ServeFault.{ServeFault}
use Rattle.ghs_answers.specs.declared.fault.ServeFault.TheVariants as serve

-- the rules of a protocol
module _ {S M : Type 0} (r : Rules S M) where
  -- when a run has ended
  module _ (has_ended : Shape → Net S M → Type 0) where
    -- why a run of a graph doesn't end well: its turns are used, or memory runs out
    abbrev pub StopsRun : RunOptions → Shape → ServeFault → Type 0
    StopsRun o g serve.TurnLimit = (events : List Event) × IsStopped r has_ended o.schedule_kind o.seed o.wake o.turns g events
    StopsRun o g serve.Memory = Unit {0}
    StopsRun o g _ = ⊥

    -- why the net after some events has no text: their run goes on
    abbrev pub GoesOn : Shape → List Event → ServeFault → Type 0
    GoesOn g events serve.NotEnded = has_ended g (net_after r g events) → ⊥
    GoesOn g events serve.Memory = Unit {0}
    GoesOn g events _ = ⊥

    -- these events and this graph give this fault: the first event that isn't lawful, or a run that hasn't ended
    abbrev pub IsRunCause : WakeSet → Shape → List Event → ServeFault → Type 0
    IsRunCause wake g events (serve.NotLawful k) = IsFirstUnlawful r g wake events k
    IsRunCause wake g events serve.NotEnded =
        IsRunUnder r (may_wake g wake) (network_of g) events × (has_ended g (net_after r g events) → ⊥)
    IsRunCause wake g events serve.Memory = Unit {0}
    IsRunCause wake g events _ = ⊥

    -- the names of the kinds of messages, the bound on them, the marks of links, and what marked links are at the end
    module _ (kind : ℕ → List ℕ) (bound : Shape → ℕ) (is_branch : S → ℕ → Bool) (found : Shape → List Key → Type 0) where
      -- the text of the net that some events leave
      abbrev pub IsText : Shape → List Event → List ℕ → Type 0
      IsText g events output = IsReportText r kind bound is_branch found g (net_after r g events) output

      -- events that are a run of the graph which has ended, and the output is the text of its net
      pub record IsReplayed (wake : WakeSet) (g : Shape) (events : List Event) (output : List ℕ) : Type 0 where
        pub run : IsRunUnder r (may_wake g wake) (network_of g) events
        pub ended : has_ended g (net_after r g events)
        pub printed : IsText g events output

      -- the protocol, as heads of stored runs name it
      module _ (p : Protocol) where
        -- what is shown of a run that has ended: its report, its events, or its time
        abbrev pub IsShown : Show → ScheduleKind → Shape → List Event → List ℕ → Type 0
        IsShown Summary kind g events output = IsText g events output
        IsShown Events kind g events output = output ≡ stored_text p events
        IsShown Time kind g events output = output ≡ timed_text r kind g events

        -- the seed's run of the graph ends, and the output shows it
        pub record IsRun (o : RunOptions) (g : Shape) (output : List ℕ) : Type 0 where
          pub events : List Event
          pub whole : IsWholeRun r has_ended o.schedule_kind o.seed o.wake o.turns g events
          pub printed : IsShown o.show o.schedule_kind g events output

        -- it has used its turns, and the output has its events, which are asked for
        pub record IsStoppedText (o : RunOptions) (g : Shape) (output : List ℕ) : Type 0 where
          pub events : List Event
          pub stopped : IsStopped r has_ended o.schedule_kind o.seed o.wake o.turns g events
          pub asked : o.show ≡ Events
          pub printed : output ≡ stored_text p events

        -- what goes out of a run of a graph, where it ends, and where its turns are used (true)
        abbrev pub IsRan : RunOptions → Shape → Bool → List ℕ → Type 0
        IsRan o g false output = IsRun o g output
        IsRan o g true output = IsStoppedText o g output

-- by each schedule a run has a bound on its events, and there are turns for so many: for all messages that may be sent and all nodes
abbrev pub HasTurnsFor : (Shape → ℕ) → RunOptions → Shape → Type 0
HasTurnsFor bound o g = bound g + g.nodes ≤ o.turns
