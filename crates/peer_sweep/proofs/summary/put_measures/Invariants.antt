use Rattle.std.proofs.Common.{◌≡◌, ◌++◌, List, ℕ, take}
use Rattle.peer_sweep.specs.Summary.{AreSummaryLines}
use Rattle.peer_sweep.proofs.summary.put_measures.Given as goal

abbrev pub invariant-loop-column : goal.invariant-loop-column
invariant-loop-column l =
    (lines : List ℕ) × AreSummaryLines l.form l.front l.runs (take l.column-index l.columns) lines × (l.text.items ≡ l.fn.text.items ++ lines)
