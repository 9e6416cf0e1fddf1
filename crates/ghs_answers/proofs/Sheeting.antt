-- What is printed of the runs of a sweep, behind a text.
use Rattle.std.proofs.Common.{◌≡◌, ◌++◌, List, ℕ, refl, subst, sym}
use Rattle.peer_sweep.specs.declared.figures.Figures.{Figures}
use Rattle.peer_sweep.specs.declared.setup.Setup.{Setup}
use Rattle.peer_sweep.specs.Columns.{Layout}
use Rattle.peer_sweep.specs.Lines.{line_behind, run_lines}
use Rattle.peer_sweep.specs.Summary.{AreSummaryLines}
use Rattle.ghs_commands.specs.declared.job.Sheet.{Sheet}
use Rattle.ghs_commands.specs.declared.job.Sheet.TheVariants.{Runs, Summary}
use Rattle.ghs_commands.specs.declared.job.SweepOptions.{SweepOptions}
use Rattle.ghs_answers.specs.Sheets.{AreSheetLines}

-- lines of runs behind a text, where these are asked for
pub runs_behind : (o : SweepOptions) (front : List ℕ) (l : Layout) (setup : Setup) (runs : List Figures) (old new : List ℕ) →
    o.sheet ≡ Runs →
    new ≡ old ++ run_lines (line_behind o.form front l setup) o.seeds.first runs →
    (lines : List ℕ) × AreSheetLines o.sheet o.form front l setup o.seeds.first runs lines × (new ≡ old ++ lines)
runs_behind o front l setup runs old new is printed =
    let all = run_lines (line_behind o.form front l setup) o.seeds.first runs in
    (all, subst (λ (s : Sheet). AreSheetLines s o.form front l setup o.seeds.first runs all) (sym is) refl, printed)

-- and those of a summary
pub summary_behind : (o : SweepOptions) (front : List ℕ) (l : Layout) (setup : Setup) (runs : List Figures) (old new : List ℕ) →
    o.sheet ≡ Summary →
    (lines : List ℕ) × AreSummaryLines o.form front runs l.columns lines × (new ≡ old ++ lines) →
    (lines : List ℕ) × AreSheetLines o.sheet o.form front l setup o.seeds.first runs lines × (new ≡ old ++ lines)
summary_behind o front l setup runs old new is (lines, are, printed) =
    (lines, subst (λ (s : Sheet). AreSheetLines s o.form front l setup o.seeds.first runs lines) (sym is) are, printed)
