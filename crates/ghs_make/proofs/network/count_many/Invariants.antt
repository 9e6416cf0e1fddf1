use Rattle.std.proofs.Common.{◌≡◌, ◌≤◌, ◌*◌}
use Rattle.ghs_make.specs.Network.{count_of_nodes}
use Rattle.ghs_make.proofs.network.count_many.Given as goal

abbrev pub invariant-loop-before : goal.invariant-loop-before
invariant-loop-before l = (l.links ≡ count_of_nodes l.plan l.before) × (l.links ≤ 2097152 * l.before)
