use Rattle.std.proofs.Common.{◌≡◌, ◌∙◌, ◌+◌, ◌-◌, ◌++◌, ◌<◌, ◌≤◌, length, ap, sym, arith, rules}
use Rattle.ghs_make.specs.Ends.{smaller_ends}
use Rattle.ghs_report.specs.declared.portions.WriteFault.TheVariants.{Memory}
use Rattle.ghs_make.proofs.Counts.{count_more, count_none, count_within}
use Rattle.ghs_make.proofs.Going.{front_of_all, out_node, text_none, text_to, text_whole}
use Rattle.ghs_report.proofs.lemmas.Gone.{out_all, out_front, out_more, out_start}
use Rattle.ghs_make.proofs.write.write_network.Goals as goal

pub nodes-init : goal.nodes-init
nodes-init g c =
    let n = c.args.network.now in
    let head = rw c.new-text.ensures.items at c.in-Ok.ensures in
    record {
      counted = sym (count_none n.plan);
      sound = c.requires.sound;
      out = rw (text_none n, head) (out_more _ _ _ _ _ _ (out_start (g.W.Sink.held c.args.writer.now)));
      small = omega arith;
    }

pub returns-in-Err-put_node-clause-err : goal.returns-in-Err-put_node-clause-err
returns-in-Err-put_node-clause-err g c =
    front_of_all _ _ c.args.network.now c.nodes.before Memory (omega arith) (out_front _ _ _ _ _ c.nodes.invariant.out)

pub overflow_cast-number : goal.overflow_cast-number
overflow_cast-number g c =
    let within = count_within c.args.network.now c.requires.network c.nodes.before (omega arith) in
    let many : c.len.result ≡ length c.put_node.new.ends.items = search rules in
    let ends = ap length c.in-Ok-put_node.ensures.ends in
    omega (arith, within, many, ends)

pub overflow_add-number : goal.overflow_add-number
overflow_add-number g c =
    let within = count_within c.args.network.now c.requires.network c.nodes.before (omega arith) in
    let many : c.len.result ≡ length c.put_node.new.ends.items = search rules in
    let ends = ap length c.in-Ok-put_node.ensures.ends in
    let counted = c.nodes.invariant.counted in
    omega (arith, within, many, ends, counted)

pub returns-in-Err-send_portion-clause-err : goal.returns-in-Err-send_portion-clause-err
returns-in-Err-send_portion-clause-err g c =
    let inv = c.nodes.invariant in
    let out = out_node _ _ c.args.network.now c.nodes.before c.nodes.number _ _ _ inv.counted inv.out c.in-Ok-put_node.ensures.text in
    front_of_all _ _ c.args.network.now (c.nodes.before + 1) _ (omega arith) (c.in-Err-send_portion.ensures.front _ _ out)

pub nodes-preserved : goal.nodes-preserved
nodes-preserved g c =
    let inv = c.nodes.invariant in
    let out = out_node _ _ c.args.network.now c.nodes.before c.nodes.number _ _ _ inv.counted inv.out c.in-Ok-put_node.ensures.text in
    let many : c.len.result ≡ length c.put_node.new.ends.items = search rules in
    let ends = ap length c.in-Ok-put_node.ensures.ends in
    let counted = inv.counted in
    let count = count_more c.args.network.now.plan c.nodes.before in
    record {
      counted = omega (arith, counted, count, many, ends);
      sound = c.in-Ok-send_portion.ensures.sound;
      out = c.in-Ok-send_portion.ensures.out _ _ out;
      small = (let more = c.in-Ok-send_portion.ensures.more in let small = inv.small in omega arith);
    }

pub returns-in-Ok-send_off-clause-ok : goal.returns-in-Ok-send_off-clause-ok
returns-in-Ok-send_off-clause-ok g c =
    let all : c.nodes.before ≡ c.args.network.now.plan.nodes - 1 = (let end = c.nodes-test.false in omega arith) in
    let out = c.in-Ok-send_off.ensures.out _ _ c.nodes.invariant.out in
    rw (← text_whole c.args.network.now, ← all) (out_all _ _ _ _ (rw c.in-Ok-send_off.ensures.empty at out))

pub returns-clause-err : goal.returns-clause-err
returns-clause-err g c =
    front_of_all _ _ c.args.network.now c.nodes.before _ (omega arith) (c.in-Err-send_off.ensures.front _ _ c.nodes.invariant.out)
