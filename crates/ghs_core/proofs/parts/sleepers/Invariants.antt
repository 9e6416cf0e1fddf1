use Rattle.std.proofs.Common.{◌≡◌, ◌+◌, ◌<◌, ℕ, length, slice_index_or}
use Rattle.ghs_graph.specs.Ports.{ports_of}
use Rattle.ghs_node.specs.NodeState.{sleeper}
use Rattle.ghs_core.specs.Kept.{no_node}
use Rattle.ghs_core.proofs.parts.sleepers.Given as goal

abbrev pub invariant-loop-i : goal.invariant-loop-i
invariant-loop-i l =
    (length l.nodes.items ≡ l.i) ×
    ((k : ℕ) → k < l.i → slice_index_or l.nodes.items k no_node ≡ sleeper (k + 1) (ports_of l.graph.keys (k + 1)))
