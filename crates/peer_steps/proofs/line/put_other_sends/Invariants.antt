use Rattle.std.proofs.Common.{◌≡◌, ◌++◌, take}
use Rattle.std.specs.List.{flat_map}
use Rattle.peer_steps.specs.StepLine.{behind_semicolon}
use Rattle.peer_steps.specs.StepLine.{send_text}
use Rattle.peer_steps.proofs.line.put_other_sends.Given as goal

abbrev pub invariant-loop-send : goal.invariant-loop-send
invariant-loop-send l = l.text.items ≡ l.fn.text.items ++ flat_map (behind_semicolon send_text) (take l.send-index l.sends)
