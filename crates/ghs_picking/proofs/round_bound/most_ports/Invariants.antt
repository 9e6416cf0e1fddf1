use Rattle.std.proofs.Common.{◌≡◌, ◌+◌, length}
use Rattle.peer_chains.specs.Chains.{most_below}
use Rattle.ghs_graph.specs.Ports.{ports_of}
use Rattle.ghs_picking.proofs.round_bound.most_ports.Given as goal

abbrev pub invariant-loop-before : goal.invariant-loop-before
invariant-loop-before l = l.most ≡ most_below l.before (λ i. length (ports_of l.graph.keys (i + 1)))
