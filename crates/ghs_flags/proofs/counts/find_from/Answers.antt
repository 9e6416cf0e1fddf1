use Rattle.std.proofs.Common.{ℕ, ◌+◌, ◌-◌, get_or, refl, arith}
use Rattle.std.proofs.lemmas.List.Sums.{sum_by_more}
use Rattle.ghs_flags.proofs.Sums.{within_short}
use Rattle.ghs_flags.proofs.counts.find_from.Goals as goal

pub loop-at-init : goal.loop-at-init
loop-at-init c = record { within = within_short (λ (n : ℕ). n) c.args.counts.now c.args.start c.args.rest c.requires; left = refl }

pub loop-at-preserved : goal.loop-at-preserved
loop-at-preserved c =
    let counts = c.args.counts.now in
    let here = sum_by_more (λ (n : ℕ). n) counts c.loop-at.at 0 c.loop-at.invariant.within in
    let left = c.loop-at.invariant.left in
    let within = within_short (λ (n : ℕ). n) counts (c.loop-at.at + 1) (c.loop-at.rest - get_or counts c.loop-at.at 0) (omega arith) in
    record { within = within; left = omega arith }
