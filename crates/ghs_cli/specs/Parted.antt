-- A run by GHS by parts.
use Rattle.std.specs.Prelude.{◌≡◌, ℕ, List}
use Rattle.ghs_graph.specs.Graph.{Shape}
use Rattle.peer_network.specs.declared.event.Event.{Event}
use Rattle.ghs_choices.specs.declared.by.By.{By}
use Rattle.ghs_picking.specs.Picking.{IsPickedBy}
use Rattle.ghs_parts.specs.Lines.{run_text}
use Rattle.ghs_commands.specs.declared.job.SweepOptions.{SweepOptions}
use Rattle.peer_parts.specs.declared.columns.Column.{Column}

-- a seed's run by GHS by parts: a line for each of them, each behind a front
pub record IsPartedByGhs (o : SweepOptions) (by : By) (columns : List Column) (front : List ℕ) (g : Shape) (seed : ℕ) (lines : List ℕ) : Type 0 where
  pub events : List Event
  pub run : IsPickedBy o.schedule_kind seed o.wake o.turns g events
  pub printed : lines ≡ run_text o.form front by seed columns g events
