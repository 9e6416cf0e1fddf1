use Rattle.std.proofs.Common.{◌≡◌, ℕ, ◌<◌, None, length, get_or}
use Rattle.ghs_report.proofs.fragments.Fragments.singles.Given as goal

abbrev pub invariant-loop-v : goal.invariant-loop-v
invariant-loop-v l = record {
  parents : length l.parents.items ≡ l.v;
  levels : length l.levels.items ≡ l.v;
  cores : length l.cores.items ≡ l.v;
  alone : (v : ℕ) → v < l.v → get_or l.parents.items v 0 ≡ v;
  low : (v : ℕ) → v < l.v → get_or l.levels.items v 0 ≡ 0;
  none : (v : ℕ) → v < l.v → get_or l.cores.items v None ≡ None;
}
