use Rattle.std.proofs.Common.{◌≡◌, ◌++◌}
use Rattle.gather_node.specs.State.{after, links_to}
use Rattle.gather_node.proofs.react.known.Given as goal

abbrev pub invariant-loop-port : goal.invariant-loop-port
invariant-loop-port l = l.keys.items ≡ l.node.keys ++ links_to l.port (after l.node l.change).brought
