use Rattle.std.proofs.Common.{◌≡◌, ◌++◌, take}
use Rattle.std.specs.List.{flat_map}
use Rattle.peer_steps.specs.StepLine.{behind_semicolon}
use Rattle.ghs_steps.specs.StepLine.{change_text}
use Rattle.ghs_steps.proofs.line.put_other_changes.Given as goal

abbrev pub invariant-loop-change : goal.invariant-loop-change
invariant-loop-change l = l.text.items ≡ l.fn.text.items ++ flat_map (behind_semicolon change_text) (take l.change-index l.changes)
