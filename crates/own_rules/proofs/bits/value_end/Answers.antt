use Rattle.std.proofs.Common.{◌≡◌, ◌==◌, ◌&&◌, ◌∙◌, ◌+◌, ap, arith, drop, false, refl, sym, take, true}
use Rattle.std.specs.List.{slice_index_or}
use Rattle.own_rules.specs.Bits.{values_from}
use Rattle.own_rules.proofs.Valued.{in_front, one_deeper, one_value, value_found, value_more}
use Rattle.own_rules.proofs.bits.value_end.Goals as goal

pub loop-end-init : goal.loop-end-init
loop-end-init c = record { values = refl; depth = omega arith }

pub returns-then-parts_values-clause-some : goal.returns-then-parts_values-clause-some
returns-then-parts_values-clause-some c =
    let text = c.args.text.now in
    let i = c.loop-end.end in
    let depth = c.loop-end.depth in
    let parts : (slice_index_or text i 0 == 44 && depth == 0) ≡ true = sym c.parts_values.ensures ∙ c.if-parts_values.true in
    (c.loop-end-test.true, value_found text i depth c.loop-end-test.true c.loop-end.invariant.values parts)

pub loop-end-preserved : goal.loop-end-preserved
loop-end-preserved c =
    let text = c.args.text.now in
    let i = c.loop-end.end in
    let depth = c.loop-end.depth in
    let parts : (slice_index_or text i 0 == 44 && depth == 0) ≡ false = sym c.parts_values.ensures ∙ c.if-parts_values.false in
    record {
      values = ap (λ d. in_front (take (i + 1) text) (values_from d (drop (i + 1) text))) c.deeper-depth.ensures
          ∙ value_more text i depth c.loop-end-test.true c.loop-end.invariant.values parts;
      depth =
          let most = one_deeper depth (slice_index_or text i 0) in
          let is = c.deeper-depth.ensures in
          let had = c.loop-end.invariant.depth in
          omega (arith, most, is, had);
    }

pub returns-clause-none : goal.returns-clause-none
returns-clause-none c =
    let end = c.loop-end.auto.end-end in
    let past = c.loop-end-test.false in
    one_value c.args.text.now c.loop-end.end c.loop-end.depth (omega (arith, end, past)) c.loop-end.invariant.values
