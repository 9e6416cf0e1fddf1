-- A seed's run by parts.
use Rattle.std.specs.Prelude.{◌≡◌, ◌⊎◌, ℕ, List, []}
use Rattle.ghs_graph.specs.Graph.{Shape}
use Rattle.peer_network.specs.declared.event.Event.{Event}
use Rattle.peer_machine.specs.Net.{Net}
use Rattle.peer_machine.specs.Rules.{Rules}
use Rattle.peer_report.specs.Runs.{IsStopped, IsWholeRun}
use Rattle.peer_words.specs.Words.{Words}
use Rattle.ghs_choices.specs.declared.by.By.{By}
use Rattle.ghs_choices.specs.declared.by.By.TheVariants.{Node, Level, Rule}
use Rattle.ghs_choices.specs.declared.form.Form.{Form}
use Rattle.peer_sweep.specs.declared.setup.Setup.{Setup}
use Rattle.peer_parts.specs.declared.columns.Column.{Column}
use Rattle.peer_parts.specs.Lines.{node_lines, row_lines}
use Rattle.peer_parts.specs.Parts.{node_parts, row_parts}

module _ {S M : Type 0} (r : Rules S M) (words : Words S M) (has_ended : Shape → Net S M → Type 0) where
  -- lines printed of the run that a seed picks, which has ended or has used its turns
  pub record IsPrinted (text : List Event → List ℕ) (g : Shape) (setup : Setup) (seed : ℕ) (lines : List ℕ) : Type 0 where
    pub events : List Event
    pub run : IsWholeRun r has_ended setup.schedule_kind seed setup.wake setup.turns g events
        ⊎ IsStopped r has_ended setup.schedule_kind seed setup.wake setup.turns g events
    pub printed : lines ≡ text events

  -- the lines of its parts, each behind a front; by level there are none: no rules here say what a node's level is
  abbrev pub IsPartedRun : Form → List ℕ → By → List Column → Shape → Setup → ℕ → List ℕ → Type 0
  IsPartedRun form front Node columns g setup seed lines =
      IsPrinted (λ es. node_lines form front seed columns (node_parts r words g es)) g setup seed lines
  IsPartedRun form front Level columns g setup seed lines = lines ≡ []
  IsPartedRun form front Rule columns g setup seed lines =
      IsPrinted (λ es. row_lines form front seed columns (row_parts r words g es)) g setup seed lines
