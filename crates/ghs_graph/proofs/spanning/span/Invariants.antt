use Rattle.std.proofs.Common.{take}
use Rattle.ghs_graph.specs.Spanning.{IsSpanned}
use Rattle.ghs_graph.proofs.spanning.span.Given as goal

abbrev pub invariant-loop-key : goal.invariant-loop-key
invariant-loop-key l = IsSpanned l.nodes (take l.key-index l.keys) l.spanning.roots l.spanning.tree.items
