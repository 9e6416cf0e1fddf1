use Rattle.std.proofs.Common.{◌≡◌}
use Rattle.ghs_make.specs.Network.{count_of_nodes}
use Rattle.ghs_make.proofs.network.count.Given as goal

abbrev pub invariant-nodes : goal.invariant-nodes
invariant-nodes l = l.links ≡ count_of_nodes l.plan l.before
