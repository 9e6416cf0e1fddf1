use Rattle.std.proofs.Common.{◌≡◌, ◌<◌, ℕ, length, slice_index}
use Rattle.peer_sweep.proofs.rules.first_eight.Given as goal

abbrev pub invariant-loop-k : goal.invariant-loop-k
invariant-loop-k l = record {
  many : length l.first ≡ 8;
  each : (j : ℕ) → j < l.k → slice_index l.first j ≡ slice_index l.counts j;
}
