use Rattle.std.proofs.Common.{◌≡◌, take}
use Rattle.ghs_sweep.specs.Figures.{greatest_level}
use Rattle.ghs_sweep.proofs.figures.greatest_level.Given as goal

abbrev pub invariant-loop-row : goal.invariant-loop-row
invariant-loop-row l = l.level ≡ greatest_level (take l.row-index l.census)
