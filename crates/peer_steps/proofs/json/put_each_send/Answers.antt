use Rattle.std.proofs.Common.{refl}
use Rattle.peer_steps.specs.Json.{send_json}
use Rattle.peer_steps.proofs.Listed.{next_listed, next_some, none_listed}
use Rattle.peer_steps.proofs.json.put_each_send.Goals as goal

pub loop-send-init : goal.loop-send-init
loop-send-init c = record { text = none_listed send_json c.args.text.now.items; begun = refl }

pub loop-send-preserved : goal.loop-send-preserved
loop-send-preserved c =
    let inv = c.loop-send.invariant in
    let x = c.send-item.result in
    record {
      text = next_listed send_json c.args.sends.now c.loop-send.send-index x _ _ _ _ _ c.loop-send-test.true c.send-item.is inv.begun inv.text
          c.in_ok-put_comma.ensures c.in_ok-put_send.ensures;
      begun = next_some c.args.sends.now c.loop-send.send-index x c.loop-send-test.true c.send-item.is;
    }
