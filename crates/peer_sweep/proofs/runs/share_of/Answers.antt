use Rattle.std.proofs.Common.{◌≡◌, ◌*◌, ◌/◌, ◌<◌, ◌≤◌, ap, arith, subst, sym}
use Rattle.std.proofs.Math.Nat.{mul-div-le}
use Rattle.peer_sweep.proofs.Appending.{part_covers, part_less}
use Rattle.peer_sweep.proofs.runs.share_of.Goals as goal

pub returns-clause-some : goal.returns-clause-some
returns-clause-some c = let max = c.max.ensures in omega (arith, max)

pub returns-clause-left : goal.returns-clause-left
returns-clause-left c =
    let same = c.from.ensures in
    let threads = c.requires.threads in
    let count = c.requires.count in
    let less : c.args.count / c.from.result < c.args.count = part_less c.args.count c.from.result count (omega (arith, same, threads)) in
    let max = c.max.ensures in
    omega (arith, max, less, count)

pub returns-clause-covers : goal.returns-clause-covers
returns-clause-covers c =
    let max = c.max.ensures in
    let part : c.args.count / c.from.result ≡ c.args.count / c.args.threads = ap (λ t. c.args.count / t) c.from.ensures in
    part_covers c.args.count c.args.threads c.max.result c.requires.threads (omega (arith, max, part))

pub returns-clause-part : goal.returns-clause-part
returns-clause-part c = λ more.
    let max = c.max.ensures in
    let part : c.args.count / c.from.result ≡ c.args.count / c.args.threads = ap (λ t. c.args.count / t) c.from.ensures in
    let is : c.max.result ≡ c.args.count / c.args.threads = omega (arith, max, part, more) in
    subst (λ k. c.args.threads * k ≤ c.args.count) (sym is) (mul-div-le c.args.count c.args.threads)
