use Rattle.std.proofs.Common.{◌≡◌, ◌++◌}
use Rattle.gather_node.specs.Reaction.{trees}
use Rattle.gather_node.specs.State.{after}
use Rattle.gather_node.proofs.react.tell.Given as goal

abbrev pub invariant-loop-port : goal.invariant-loop-port
invariant-loop-port l = l.sends.items ≡ l.initial.sends.items ++ trees l.tree l.port (after l.node l.change).brought
