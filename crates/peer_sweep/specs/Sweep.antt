-- The runs of many seeds.
use Rattle.std.specs.Prelude.{ℕ, ◌+◌, ◌≤◌, ◌^◌, List, [], ◌∷◌, ◌++◌, length}
use Rattle.ghs_graph.specs.Graph.{Shape}
use Rattle.peer_sweep.specs.declared.figures.Figures.{Figures}
use Rattle.peer_sweep.specs.declared.setup.Setup.{Setup}

-- each run has a turn, and no more than 2^40
pub record HasTurns (setup : Setup) : Type 0 where
  pub some : 1 ≤ setup.turns
  pub few : setup.turns ≤ 2 ^ 40

-- the figures of the runs of seeds from the first on, rising, where are g setup seed f says that f are those of the seed's run
pub data AreRuns (are : Shape → Setup → ℕ → Figures → Type 0) (g : Shape) (setup : Setup) (first : ℕ) : List Figures → Type 0 where
  NoRun : AreRuns are g setup first []
  NextRun : (runs : List Figures) (f : Figures) → AreRuns are g setup first runs → are g setup (first + length runs) f →
      AreRuns are g setup first (runs ++ f ∷ [])
