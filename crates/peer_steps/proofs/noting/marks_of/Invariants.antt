use Rattle.std.proofs.Common.{◌≡◌, ℕ, ◌+◌, ◌<◌, [], length, slice_index_or}
use Rattle.peer_steps.proofs.noting.marks_of.Given as goal

abbrev pub invariant-loop-at : goal.invariant-loop-at
invariant-loop-at g l = record {
  count : length l.marks.items ≡ l.at;
  marks : (i : ℕ) → i < l.at → slice_index_or l.marks.items i [] ≡ g.P.Spoken.words.mark l.node (l.span.first + i);
}
