use Rattle.std.proofs.Common.{◌≡◌, take}
use Rattle.own_rules.specs.Lacks.{lacks_text}
use Rattle.own_rules.proofs.lacks.lacks_text.Given as goal

abbrev pub invariant-loop-k : goal.invariant-loop-k
invariant-loop-k l = l.text.items ≡ lacks_text l.rules (take l.k l.lacks)
