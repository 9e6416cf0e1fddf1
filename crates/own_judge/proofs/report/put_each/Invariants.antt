use Rattle.std.proofs.Common.{◌≡◌, ◌++◌, take}
use Rattle.std.specs.List.{flat_map}
use Rattle.own_judge.specs.Report.{send_text}
use Rattle.own_judge.proofs.report.put_each.Given as goal

abbrev pub invariant-loop-send : goal.invariant-loop-send
invariant-loop-send l = l.text.items ≡ l.fn.text.items ++ flat_map (send_text l.graph l.v) (take l.send-index l.sends)
