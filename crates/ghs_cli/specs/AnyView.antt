-- Pages of runs of a graph by any protocol.
use Rattle.std.specs.Prelude.{◌⊎◌, ℕ, List, Option, Some, None}
use Rattle.ghs_graph.specs.Graph.{Shape}
use Rattle.peer_page.specs.Limits.{IsPairTooLarge, IsTooLarge}
use Rattle.peer_machine.specs.Net.{Net}
use Rattle.peer_machine.specs.Rules.{Rules}
use Rattle.peer_network.specs.declared.event.Event.{Event}
use Rattle.peer_report.specs.Runs.{IsStopped, IsWholeRun}
use Rattle.ghs_commands.specs.declared.job.ViewOptions.{ViewOptions}
use Rattle.ghs_answers.specs.declared.fault.ServeFault.{ServeFault}
use Rattle.ghs_answers.specs.declared.fault.ServeFault.TheVariants as serve

-- the rules of a protocol
module _ {S M : Type 0} (r : Rules S M) where
  -- when a run has ended
  module _ (has_ended : Shape → Net S M → Type 0) where
    -- the run that a seed picks of a graph, to its end or to its last turn
    abbrev pub IsShownBy : ℕ → ViewOptions → Shape → List Event → Type 0
    IsShownBy seed o g events =
        IsWholeRun r has_ended o.schedule_kind seed o.wake o.turns g events ⊎ IsStopped r has_ended o.schedule_kind seed o.wake o.turns g events

    -- the run is one that a page can't take
    pub record IsLongRun (o : ViewOptions) (g : Shape) : Type 0 where
      pub events : List Event
      pub run : IsShownBy o.seed o g events
      pub large : IsTooLarge g events o.to

    -- of it and another seed's a page can't take one
    pub record IsLongPair (o : ViewOptions) (beside : ℕ) (g : Shape) : Type 0 where
      pub first : List Event
      pub second : List Event
      pub run : IsShownBy o.seed o g first
      pub run_beside : IsShownBy beside o g second
      pub large : IsPairTooLarge g first second o.to

    abbrev pub IsLong : Option ℕ → ViewOptions → Shape → Type 0
    IsLong None o g = IsLongRun o g
    IsLong (Some beside) o g = IsLongPair o beside g

    -- why there is no page, of one run or of two
    abbrev pub HasNoView : ViewOptions → Shape → ServeFault → Type 0
    HasNoView o g serve.PageTooLarge = IsLong o.beside o g
    HasNoView o g serve.Memory = Unit {0}
    HasNoView o g _ = ⊥

-- what the page of some events is, which opens before one of them and ends with another
module _ {S M : Type 0} (r : Rules S M) (is_page : Shape → List Event → ℕ → ℕ → List ℕ → Type 0) where
  module _ (has_ended : Shape → Net S M → Type 0) where
    -- the page of the run of a seed
    pub record IsRunView (o : ViewOptions) (g : Shape) (output : List ℕ) : Type 0 where
      pub events : List Event
      pub run : IsShownBy r has_ended o.seed o g events
      pub page : is_page g events o.from o.to output

    -- and that of two lists of events
    module _ (is_pair_page : Shape → List Event → List Event → ℕ → ℕ → List ℕ → Type 0) where
      -- the page of two runs, that of the options' seed and that of another one
      pub record IsPairView (o : ViewOptions) (beside : ℕ) (g : Shape) (output : List ℕ) : Type 0 where
        pub first : List Event
        pub second : List Event
        pub run : IsShownBy r has_ended o.seed o g first
        pub run_beside : IsShownBy r has_ended beside o g second
        pub page : is_pair_page g first second o.from o.to output

      -- the page of one of them, or with another seed of two
      abbrev pub IsViewBeside : Option ℕ → ViewOptions → Shape → List ℕ → Type 0
      IsViewBeside None o g output = IsRunView o g output
      IsViewBeside (Some beside) o g output = IsPairView o beside g output

      abbrev pub IsView : ViewOptions → Shape → List ℕ → Type 0
      IsView o g output = IsViewBeside o.beside o g output
