-- The runs of many seeds by GHS.
use Rattle.std.specs.Prelude.{ℕ, List}
use Rattle.ghs_graph.specs.Graph.{Shape}
use Rattle.peer_network.specs.declared.event.Event.{Event}
use Rattle.ghs_picking.specs.Picking.{IsPickedBy}
use Rattle.peer_sweep.specs.declared.figures.Figures.{Figures}
use Rattle.peer_sweep.specs.declared.setup.Setup.{Setup}
use Rattle.ghs_sweep.specs.Figures.{AreFigures}

-- the figures of the seed's run: of all that its schedule picks, among all events, patiently, by rounds, what waits or what was sent last,
-- from the opening on
pub record AreFiguresOf (g : Shape) (setup : Setup) (seed : ℕ) (f : Figures) : Type 0 where
  pub events : List Event
  pub run : IsPickedBy setup.schedule_kind seed setup.wake setup.turns g events
  pub figures : AreFigures g events f
