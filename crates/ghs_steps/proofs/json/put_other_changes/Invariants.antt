use Rattle.std.proofs.Common.{◌≡◌, ◌++◌, [], take}
use Rattle.std.specs.List.{flat_map}
use Rattle.peer_steps.specs.Json.{behind_comma}
use Rattle.ghs_steps.specs.Json.{change_member}
use Rattle.ghs_steps.proofs.json.put_other_changes.Given as goal

abbrev pub invariant-loop-change : goal.invariant-loop-change
invariant-loop-change l = l.text.items ≡ l.fn.text.items ++ flat_map (behind_comma (change_member [])) (take l.change-index l.changes)
