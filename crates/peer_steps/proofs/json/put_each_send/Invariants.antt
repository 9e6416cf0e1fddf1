use Rattle.std.proofs.Common.{◌≡◌, ◌++◌, take}
use Rattle.peer_steps.specs.Json.{listed}
use Rattle.peer_steps.specs.Json.{send_json}
use Rattle.peer_steps.proofs.Listed.{some}
use Rattle.peer_steps.proofs.json.put_each_send.Given as goal

abbrev pub invariant-loop-send : goal.invariant-loop-send
invariant-loop-send l = record {
  text : l.text.items ≡ l.fn.text.items ++ listed send_json (take l.send-index l.sends);
  begun : l.begun ≡ some (take l.send-index l.sends);
}
