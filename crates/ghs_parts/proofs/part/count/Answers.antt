use Rattle.std.proofs.Common.{◌≡◌, ◌∙◌, ap, arith, length, length-set}
use Rattle.ghs_node.specs.Kind.{place_of}
use Rattle.ghs_parts.proofs.KindCounts.{counts_more, one_more}
use Rattle.ghs_parts.proofs.part.count.Goals as goal

pub overflow_add-kinds : goal.overflow_add-kinds
overflow_add-kinds c =
    let k = c.place.result in
    let x = c.loop-message-item.result in
    let is = c.place.ensures.place ∙ ap place_of c.kind.ensures in
    let some = c.loop-message.invariant.counts k c.place.ensures.bound in
    let more = one_more c.loop-message.message-index k c.args.sends.now x x c.loop-message-test.true c.loop-message-item.is is in
    let fits = c.requires k c.place.ensures.bound in
    omega (arith, some, more, fits)

pub loop-message-preserved : goal.loop-message-preserved
loop-message-preserved c =
    let k = c.place.result in
    let x = c.loop-message-item.result in
    let is = c.place.ensures.place ∙ ap place_of c.kind.ensures in
    let seven : length c.args.kinds.now ≡ 7 = omega arith in
    record {
      counts = counts_more c.loop-message.message-index k c.args.sends.now x x c.args.kinds.now c.loop-message.kinds
          (c.loop-message.invariant.width ∙ seven)
          c.loop-message-test.true c.loop-message-item.is is c.place.ensures.bound c.loop-message.invariant.counts;
      width = length-set c.loop-message.kinds k _ ∙ c.loop-message.invariant.width;
    }
