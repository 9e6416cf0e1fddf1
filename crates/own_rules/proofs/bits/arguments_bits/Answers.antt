use Rattle.std.proofs.Common.{◌≡◌, ◌+◌, ◌∙◌, ap, arith, min, sym}
use Rattle.own_book.specs.Answer.{types_in}
use Rattle.own_rules.specs.Bits.{arguments_bits, values_from}
use Rattle.own_rules.proofs.Valued.{cap_more, first_argument}
use Rattle.own_rules.proofs.bits.arguments_bits.Goals as goal

pub types-preserved : goal.types-preserved
types-preserved c =
    let w = c.args.widths in
    let count = c.args.count in
    let vs = values_from 0 c.types.left.now in
    let one : arguments_bits w count (types_in c.types.rest.now) vs ≡ _ =
    ap (λ ts. arguments_bits w count ts vs) c.in-Some.ensures.some
    ∙ first_argument w count c.in-Some.argument _ c.first_value.result.0.now c.first_value.result.1.now vs c.first_value.ensures in
    record {
      readable = c.in-Some.ensures.others;
      small = let sum = c.saturating_add-total.ensures in omega (arith, sum);
      total = cap_more c.types.total _ _ c.argument_bits.result c.saturating_add-total.result c.argument_bits.ensures c.saturating_add-total.ensures
          ∙ ap (λ n. min 4294967295 (c.types.total + n)) (sym one) ∙ c.types.invariant.total;
    }

pub returns : goal.returns
returns c =
    let vs = values_from 0 c.types.left.now in
    let none : arguments_bits c.args.widths c.args.count (types_in c.types.rest.now) vs ≡ 0 =
    ap (λ ts. arguments_bits c.args.widths c.args.count ts vs) (c.in_default.ensures.none) in
    let total = c.types.invariant.total in
    let small = c.types.invariant.small in
    omega (arith, none, total, small)
