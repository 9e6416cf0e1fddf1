use Rattle.std.proofs.Common.{◌≡◌, drop}
use Rattle.gather_node.specs.Forest.{has}
use Rattle.gather_node.proofs.forest.has.Given as goal

abbrev pub invariant-loop-link : goal.invariant-loop-link
invariant-loop-link l = has (drop l.link-index l.links) l.key ≡ has l.links l.key
