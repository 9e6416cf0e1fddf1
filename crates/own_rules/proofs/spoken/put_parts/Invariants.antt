use Rattle.std.proofs.Common.{◌≡◌, ◌++◌, length}
use Rattle.own_rules.specs.Words.{variables_in}
use Rattle.own_rules.proofs.spoken.put_parts.Given as goal

abbrev pub invariant-loop-part : goal.invariant-loop-part
invariant-loop-part l = l.list.items ++ variables_in l.rest ≡ l.fn.list.items ++ variables_in l.text

abbrev pub decreases-loop-part : goal.decreases-loop-part
decreases-loop-part l = length l.rest
