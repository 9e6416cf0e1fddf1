use Rattle.std.proofs.Common.{◌≡◌, length}
use Rattle.own_book.specs.Variables.{has_variable}
use Rattle.own_book.proofs.variables.has_variable.Given as goal

abbrev pub invariant-loop-part : goal.invariant-loop-part
invariant-loop-part l = has_variable l.variable l.state ≡ has_variable l.variable l.rest

abbrev pub decreases-loop-part : goal.decreases-loop-part
decreases-loop-part l = length l.rest
