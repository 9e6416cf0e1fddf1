use Rattle.std.proofs.Common.{◌≡◌, ℕ, [], length}
use Rattle.std.specs.List.{slice_index_or}
use Rattle.peer_chains.proofs.rows.empty_lines.Given as goal

abbrev pub invariant-loop : goal.invariant-loop
invariant-loop l = record {
  count : length l.lines.items ≡ l.counter;
  empty : (i : ℕ) → slice_index_or l.lines.items i [] ≡ [];
}
