use Rattle.std.proofs.Common.{◌≡◌, ◌≤◌, ◌*◌, ◌^◌, take}
use Rattle.std.specs.List.{sum}
use Rattle.peer_sweep.proofs.summary.sum_of.Given as goal

abbrev pub invariant-loop-value : goal.invariant-loop-value
invariant-loop-value l = record {
  total : l.total ≡ sum (take l.value-index l.values);
  small : l.total ≤ l.value-index * 2 ^ 96;
}
