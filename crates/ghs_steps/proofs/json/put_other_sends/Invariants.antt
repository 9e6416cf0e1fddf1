use Rattle.std.proofs.Common.{◌≡◌, ◌++◌, take}
use Rattle.std.specs.List.{flat_map}
use Rattle.peer_steps.specs.Json.{behind_comma}
use Rattle.ghs_steps.specs.Json.{send_json}
use Rattle.ghs_steps.proofs.json.put_other_sends.Given as goal

abbrev pub invariant-loop-send : goal.invariant-loop-send
invariant-loop-send l = l.text.items ≡ l.fn.text.items ++ flat_map (behind_comma send_json) (take l.send-index l.sends)
