use Rattle.std.proofs.Common.{◌≡◌, ◌<◌, ◌≤◌, ◌^◌, All, length, take}
use Rattle.peer_sweep.specs.Summary.{values_of}
use Rattle.peer_sweep.proofs.summary.values_of.Given as goal

abbrev pub invariant-loop-run : goal.invariant-loop-run
invariant-loop-run l = record {
  values : l.values.items ≡ values_of l.measure (take l.run-index l.runs);
  small : All (λ v. v < 2 ^ 96) l.values.items;
  few : length l.values.items ≤ l.run-index;
}
