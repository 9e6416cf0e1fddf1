use Rattle.std.proofs.Common.{◌≡◌, ◌++◌, take}
use Rattle.std.specs.List.{flat_map}
use Rattle.peer_steps.specs.Changes.{variable_change}
use Rattle.peer_steps.proofs.noting.note_variables.Given as goal

abbrev pub invariant-loop-variable : goal.invariant-loop-variable
invariant-loop-variable l = l.list.items ≡ l.fn.list.items ++ flat_map (variable_change l.old) (take l.variable-index l.new)
