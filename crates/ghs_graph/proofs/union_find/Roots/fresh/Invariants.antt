use Rattle.std.proofs.Common.{◌≡◌, ℕ, ◌<◌, length, get_or}
use Rattle.ghs_graph.proofs.union_find.Roots.fresh.Given as goal

abbrev pub invariant-loop-x : goal.invariant-loop-x
invariant-loop-x l = record { count : length l.up.items ≡ l.x; alone : (v : ℕ) → v < l.x → get_or l.up.items v 0 ≡ v }
