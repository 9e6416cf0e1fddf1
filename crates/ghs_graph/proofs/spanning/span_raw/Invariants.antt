use Rattle.std.proofs.Common.{take, map}
use Rattle.ghs_graph.specs.Key.{key_of}
use Rattle.ghs_graph.specs.Spanning.{IsSpanned}
use Rattle.ghs_graph.proofs.spanning.span_raw.Given as goal

abbrev pub invariant-loop-triple : goal.invariant-loop-triple
invariant-loop-triple l = IsSpanned l.raw.nodes (take l.triple-index (map key_of l.keys)) l.spanning.roots l.spanning.tree.items
