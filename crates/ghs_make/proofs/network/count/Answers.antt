use Rattle.std.proofs.Common.{◌≡◌, ◌+◌, ◌-◌, length, ap, sym, arith, rules}
use Rattle.ghs_make.proofs.Counts.{count_more, count_mono, count_none}
use Rattle.ghs_make.proofs.network.count.Goals as goal

pub nodes-init : goal.nodes-init
nodes-init c = sym (count_none c.args.plan.now)

pub overflow_cast-links : goal.overflow_cast-links
overflow_cast-links c =
    let few = c.requires.few in
    let more = count_more c.args.plan.now c.nodes.before in
    let mono = count_mono c.args.plan.now (c.nodes.before + 1) (c.args.plan.now.nodes - 1) (omega arith) in
    let ends = rw c.clear.ensures.items at (c.in_ok-put_smaller_ends.ensures) in
    let many : c.len.result ≡ length c.put_smaller_ends.new.ends.items = search rules in
    let long = ap length ends in
    omega (arith, few, more, mono, many, long)

pub overflow_add-links : goal.overflow_add-links
overflow_add-links c =
    let few = c.requires.few in
    let counted = c.nodes.invariant in
    let more = count_more c.args.plan.now c.nodes.before in
    let mono = count_mono c.args.plan.now (c.nodes.before + 1) (c.args.plan.now.nodes - 1) (omega arith) in
    let ends = rw c.clear.ensures.items at (c.in_ok-put_smaller_ends.ensures) in
    let many : c.len.result ≡ length c.put_smaller_ends.new.ends.items = search rules in
    let long = ap length ends in
    omega (arith, few, counted, more, mono, many, long)

pub nodes-preserved : goal.nodes-preserved
nodes-preserved c =
    let counted = c.nodes.invariant in
    let more = count_more c.args.plan.now c.nodes.before in
    let ends = rw c.clear.ensures.items at (c.in_ok-put_smaller_ends.ensures) in
    let many : c.len.result ≡ length c.put_smaller_ends.new.ends.items = search rules in
    let long = ap length ends in
    omega (arith, counted, more, many, long)
