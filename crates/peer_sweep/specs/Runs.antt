-- A seed's run by any protocol, and its figures.
use Rattle.std.specs.Prelude.{◌⊎◌, ℕ, Bool, true, false, length, List, [], slice_index_or}
use Rattle.ghs_graph.specs.Graph.{Shape}
use Rattle.peer_network.specs.declared.event.Event.{Event}
use Rattle.peer_machine.specs.Net.{Net}
use Rattle.peer_machine.specs.Rules.{Rules}
use Rattle.peer_report.specs.Runs.{IsStopped, IsWholeRun}
use Rattle.peer_words.specs.Words.{Words}
use Rattle.peer_sweep.specs.declared.figures.Figures.{Figures}
use Rattle.peer_sweep.specs.declared.measure.Measure.{Measure}
use Rattle.peer_sweep.specs.declared.measure.Measure.TheVariants.{Bound}
use Rattle.peer_sweep.specs.declared.setup.Setup.{Setup}
use Rattle.peer_sweep.specs.About.{About}
use Rattle.peer_sweep.specs.Figures.{AreFigures}

-- of each protocol the bound is the graph's
abbrev pub is_bound : Measure → Bool
is_bound Bound = true
is_bound m = false

-- what is told of a protocol of this name, whose kinds of messages have these names
abbrev pub about_words : List ℕ → List (List ℕ) → About
about_words name kinds = record { name = name; kinds = length kinds; kind = λ k. slice_index_or kinds k []; is_fixed = is_bound }

module _ {S M : Type 0} (r : Rules S M) where
  -- what is told of a protocol with these words
  abbrev pub about_rules : Words S M → About
  about_rules words = record { name = words.name; kinds = r.kinds; kind = words.kind; is_fixed = is_bound }

  module _ (bound : Shape → ℕ) (is_branch : S → ℕ → Bool) (has_ended : Shape → Net S M → Type 0) where
    -- the seed's run, which has ended or has used its turns
    abbrev pub IsRunOf : Shape → Setup → ℕ → List Event → Type 0
    IsRunOf g setup seed events =
        IsWholeRun r has_ended setup.schedule_kind seed setup.wake setup.turns g events ⊎
        IsStopped r has_ended setup.schedule_kind seed setup.wake setup.turns g events

    -- the figures of that run
    pub record AreFiguresOf (g : Shape) (setup : Setup) (seed : ℕ) (f : Figures) : Type 0 where
      pub events : List Event
      pub run : IsRunOf g setup seed events
      pub figures : AreFigures r bound is_branch has_ended g events f
