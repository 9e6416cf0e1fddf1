use Rattle.std.proofs.Common.{◌+◌, ◌-◌, get_or, refl, arith}
use Rattle.std.specs.Prelude.{count_ones}
use Rattle.std.proofs.lemmas.List.Sums.{sum_by_more}
use Rattle.ghs_flags.proofs.Sums.{within_short}
use Rattle.ghs_flags.proofs.row.find_bit.Goals as goal

pub loop-at-init : goal.loop-at-init
loop-at-init c = record { within = within_short count_ones c.args.words.now c.args.start c.args.rest c.requires.some; left = refl }

pub loop-at-preserved : goal.loop-at-preserved
loop-at-preserved c =
    let words = c.args.words.now in
    let here = sum_by_more count_ones words c.loop-at.at 0 c.loop-at.invariant.within in
    let left = c.loop-at.invariant.left in
    let within = within_short count_ones words (c.loop-at.at + 1) (c.loop-at.rest - count_ones (get_or words c.loop-at.at 0)) (omega arith) in
    record { within = within; left = omega arith }
