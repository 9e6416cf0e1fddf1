use Rattle.std.proofs.Common.{◌+◌, ◌/◌, arith}
use Rattle.std.specs.Prelude.{count_ones}
use Rattle.std.proofs.lemmas.List.Sums.{sum_by_more}
use Rattle.ghs_flags.proofs.Sums.{front_le}
use Rattle.ghs_flags.proofs.Ranks.{rank-le}
use Rattle.ghs_flags.proofs.row.count_from.Goals as goal

pub overflow_add-total : goal.overflow_add-total
overflow_add-total c =
    let words = c.args.words.now in
    let here = sum_by_more count_ones words c.loop-at.at 0 (omega arith) in
    let part = front_le count_ones words (c.loop-at.at + 1) (c.args.place / 64) (omega arith) in
    let all = rank-le words (λ k. (c.type_inv.words k).fits) c.args.place (omega arith) in
    omega arith
