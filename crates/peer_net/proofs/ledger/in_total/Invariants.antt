use Rattle.std.proofs.Common.{◌≡◌, ◌≤◌, ◌*◌, ◌^◌, slice_index}
use Rattle.peer_network.specs.Sums.{sum_below}
use Rattle.peer_net.proofs.ledger.in_total.Given as goal

abbrev pub invariant-loop-count : goal.invariant-loop-count
invariant-loop-count l = record {
  sum : l.total ≡ sum_below l.count-index (λ k. slice_index l.counts k);
  small : l.total ≤ l.count-index * 2 ^ 64;
}
