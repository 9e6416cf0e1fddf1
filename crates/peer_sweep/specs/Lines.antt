-- Runs' figures as lines.
use Rattle.std.specs.Prelude.{ℕ, ◌+◌, List, [], ◌∷◌, ◌++◌}
use Rattle.ghs_choices.specs.declared.form.Form.{Form}
use Rattle.ghs_choices.specs.declared.form.Form.TheVariants.{Text, Json}
use Rattle.peer_sweep.specs.declared.figures.Figures.{Figures}
use Rattle.peer_sweep.specs.declared.setup.Setup.{Setup}
use Rattle.peer_sweep.specs.Columns.{Layout}
use Rattle.peer_sweep.specs.JsonLine.{json_text}
use Rattle.peer_sweep.specs.Line.{line_text}

-- a line behind a front
abbrev pub line_behind : Form → List ℕ → Layout → Setup → ℕ → Figures → List ℕ
line_behind Text front l setup seed f = front ++ line_text l seed setup f
line_behind Json front l setup seed f = front ++ json_text l seed setup f

-- lines of runs whose seeds rise from the first on
abbrev pub run_lines : (ℕ → Figures → List ℕ) → ℕ → List Figures → List ℕ
run_lines line first [] = []
run_lines line first (f ∷ fs) = line first f ++ run_lines line (first + 1) fs
