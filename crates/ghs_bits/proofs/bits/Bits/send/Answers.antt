use Rattle.std.proofs.Common.{◌≡◌, ◌∙◌, ap, arith}
use Rattle.ghs_bits.specs.declared.widths.Widths.{Widths}
use Rattle.ghs_bits.specs.Length.{length_of}
use Rattle.ghs_bits.proofs.Counting.{bits_next, bits_so_far, longest_next}
use Rattle.ghs_bits.proofs.bits.Bits.send.Goals as goal

pub overflow_add-self : goal.overflow_add-self
overflow_add-self c =
    let w = c.args.self.now.widths in
    let x = c.loop-message-item.result in
    let long : c.length-length.result ≡ length_of w x.1 =
    c.length-length.ensures.length ∙ ap (λ (v : Widths). length_of v x.1) c.loop-message.invariant.widths in
    let within = bits_so_far w c.args.sends.now c.loop-message.message-index x c.loop-message-test.true c.loop-message-item.is in
    let so_far = c.loop-message.invariant.sent in
    let few = c.requires.few in
    omega (arith, long, within, so_far, few)

pub loop-message-preserved : goal.loop-message-preserved
loop-message-preserved c =
    let w = c.args.self.now.widths in
    let x = c.loop-message-item.result in
    let long : c.length-length.result ≡ length_of w x.1 =
    c.length-length.ensures.length ∙ ap (λ (v : Widths). length_of v x.1) c.loop-message.invariant.widths in
    record {
      widths = c.loop-message.invariant.widths;
      sent =
          let next = bits_next w c.args.sends.now c.loop-message.message-index x c.loop-message-test.true c.loop-message-item.is in
          let so_far = c.loop-message.invariant.sent in
          omega (arith, long, next, so_far);
      longest =
          let next = longest_next w c.args.sends.now c.loop-message.message-index x c.loop-message-test.true c.loop-message-item.is in
          let so_far = c.loop-message.invariant.longest in
          let here = c.max-self.ensures in
          omega (arith, long, next, so_far, here);
    }
