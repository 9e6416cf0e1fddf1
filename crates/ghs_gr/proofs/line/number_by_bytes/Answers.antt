use Rattle.std.proofs.Common.{◌<◌, ◌∙◌, length, sym, add-one, arith}
use Rattle.ghs_lines.proofs.lemmas.Digits.{all_ascii_digits-take, digits_value-more}
use Rattle.ghs_gr.proofs.Numbers.{below_more}
use Rattle.ghs_gr.proofs.line.number_by_bytes.Goals as goal

pub loop-i-preserved : goal.loop-i-preserved
loop-i-preserved c =
    let digit = sym c.is_ascii_digit.ensures.value ∙ c.if-not-is_ascii_digit.false in
    let within : c.loop-i.i < length c.args.text.now = omega (arith, c.loop-i-test.true, c.min-i-end.ensures) in
    record {
      digits = rw add-one (all_ascii_digits-take c.args.text.now c.loop-i.i within c.loop-i.invariant.digits digit);
      value = digits_value-more c.args.text.now c.loop-i.i c.loop-i.value within c.loop-i.invariant.value digit;
      small = below_more c.loop-i.i c.loop-i.value _ c.loop-i.invariant.small digit;
    }
