use Rattle.std.proofs.Common.{◌≡◌, find, length}
use Rattle.own_rules.specs.Check.{by_one}
use Rattle.own_rules.proofs.check.first_by_one.Given as goal

abbrev pub invariant-loop-link : goal.invariant-loop-link
invariant-loop-link l = find by_one l.links ≡ find by_one l.rest

abbrev pub decreases-loop-link : goal.decreases-loop-link
decreases-loop-link l = length l.rest
