use Rattle.std.proofs.Common.{◌≡◌}
use Rattle.gather_node.specs.Reaction.{explores}
use Rattle.gather_node.proofs.react.explore.Given as goal

abbrev pub invariant-loop-port : goal.invariant-loop-port
invariant-loop-port l = l.sends.items ≡ explores l.wave l.port l.parent
