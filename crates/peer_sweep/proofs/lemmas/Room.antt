-- Room for the sums of many runs' figures.
use Rattle.std.proofs.Common.{[], List, ◌∷◌, rules, ℕ}
use Rattle.std.specs.List.{All}
use Rattle.std.proofs.lemmas.List.Elements.{All-append}
use Rattle.ghs_graph.specs.Graph.{Shape}
use Rattle.peer_sweep.specs.declared.figures.Figures.{Figures}
use Rattle.peer_sweep.specs.declared.setup.Setup.{Setup}
use Rattle.peer_sweep.specs.Figures.{LeavesRoom}
use Rattle.peer_sweep.specs.Sweep.{AreRuns, NextRun, NoRun}

-- each run leaves room for the sums of many, where the figures of each seed's run do
pub runs_leave_room : (are : Shape → Setup → ℕ → Figures → Type 0) (room : (g : Shape) (s : Setup) (seed : ℕ) (f : Figures) → are g s seed f →
    LeavesRoom f) (g : Shape) (setup : Setup) (first : ℕ) (runs : List Figures) → AreRuns are g setup first runs → All LeavesRoom runs
runs_leave_room are room g setup first _ NoRun = search rules
runs_leave_room are room g setup first _ (NextRun runs f before last) =
    All-append LeavesRoom runs (f ∷ []) (runs_leave_room are room g setup first runs before) (search (rules, room g setup _ f last))
