use Rattle.std.proofs.Common.{◌≡◌, drop}
use Rattle.own_rules.specs.Check.{first_odd}
use Rattle.own_rules.proofs.check.first_odd.Given as goal

abbrev pub invariant-loop-key : goal.invariant-loop-key
invariant-loop-key l = first_odd l.marked l.forest ≡ first_odd (drop l.key-index l.marked) l.rest
