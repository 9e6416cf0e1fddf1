-- Room for the sums of many runs' figures, by each protocol.
use Rattle.std.proofs.Common.{List, ℕ}
use Rattle.std.specs.List.{All}
use Rattle.ghs_graph.specs.Graph.{Shape}
use Rattle.peer_sweep.proofs.lemmas.Room.{runs_leave_room}
use Rattle.peer_sweep.specs.Figures.{LeavesRoom}
use Rattle.peer_sweep.specs.declared.figures.Figures.{Figures}
use Rattle.peer_sweep.specs.declared.setup.Setup.{Setup}
use Rattle.peer_trace.specs.declared.protocol.Protocol.{Protocol}
use Rattle.peer_trace.specs.declared.protocol.Protocol.TheVariants as protocol
use Rattle.ghs_cli.specs.Swept.{AreFiguresBy, AreRunsBy}

-- a further protocol has a line here
leaves_room : (p : Protocol) (g : Shape) (setup : Setup) (seed : ℕ) (f : Figures) → AreFiguresBy p g setup seed f → LeavesRoom f
leaves_room protocol.Ghs g setup seed f are = are.figures.room
leaves_room protocol.Boruvka g setup seed f are = are.figures.room
leaves_room protocol.Echo g setup seed f are = are.figures.room
leaves_room protocol.Gather g setup seed f are = are.figures.room

pub runs_are_roomy : (p : Protocol) (g : Shape) (setup : Setup) (first : ℕ) (runs : List Figures) → AreRunsBy p g setup first runs →
    All LeavesRoom runs
runs_are_roomy p = runs_leave_room (AreFiguresBy p) (leaves_room p)
