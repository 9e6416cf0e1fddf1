use Rattle.std.proofs.Common.{◌≤◌, ◌<◌, ℕ, get_or}
use Rattle.ghs_graph.specs.Graph.{NODE_LIMIT}
use Rattle.ghs_graph.specs.Key.{no_key}
use Rattle.gather_node.proofs.forest.greatest_end.Given as goal

abbrev pub invariant-loop-key : goal.invariant-loop-key
invariant-loop-key l = record {
  limit : l.greatest ≤ NODE_LIMIT;
  each : (k : ℕ) → k < l.key-index → (get_or l.keys k no_key).b ≤ l.greatest;
}
