use Rattle.std.proofs.Common.{◌∙◌, ◌+◌, sym, add-one, arith}
use Rattle.ghs_lines.proofs.lemmas.Digits.{number_of-other, number_of-large, all_ascii_digits-take, digits_value-more}
use Rattle.ghs_lines.proofs.numbers.number.Goals as goal

pub returns-then-not-is_ascii_digit : goal.returns-then-not-is_ascii_digit
returns-then-not-is_ascii_digit c =
    number_of-other c.args.most c.args.field.now c.loop-byte.byte-index c.loop-byte-test.true
    (sym c.is_ascii_digit.ensures.value ∙ c.if-not-is_ascii_digit.true)

pub returns-then-value-most : goal.returns-then-value-most
returns-then-value-most c =
    number_of-large c.args.most _ c.args.field.now (c.loop-byte.byte-index + 1)
    (digits_value-more c.args.field.now c.loop-byte.byte-index c.loop-byte.value c.loop-byte-test.true c.loop-byte.invariant.value
    (sym c.is_ascii_digit.ensures.value ∙ c.if-not-is_ascii_digit.false))
    (omega arith)

pub loop-byte-preserved : goal.loop-byte-preserved
loop-byte-preserved c =
    let digit = sym c.is_ascii_digit.ensures.value ∙ c.if-not-is_ascii_digit.false in
    record {
      digits = rw add-one (all_ascii_digits-take c.args.field.now c.loop-byte.byte-index c.loop-byte-test.true c.loop-byte.invariant.digits digit);
      value = digits_value-more c.args.field.now c.loop-byte.byte-index c.loop-byte.value c.loop-byte-test.true c.loop-byte.invariant.value digit;
      small = omega arith;
    }
