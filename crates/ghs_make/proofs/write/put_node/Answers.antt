use Rattle.std.proofs.Common.{◌≡◌, ◌∙◌, ◌+◌, ◌-◌, ◌<◌, length, ap, arith}
use Rattle.ghs_make.specs.Ends.{smaller_ends}
use Rattle.ghs_make.proofs.Counts.{count_within}
use Rattle.ghs_make.proofs.write.put_node.Goals as goal

pub put_links-requires-clause-numbers : goal.put_links-requires-clause-numbers
put_links-requires-clause-numbers c =
    let n = c.args.network.now in
    let place : c.args.node - 2 + 2 ≡ c.args.node = (let low = c.requires.low in omega arith) in
    let within = count_within n c.requires.network (c.args.node - 2) (let low = c.requires.low in let high = c.requires.high in omega arith) in
    let here = rw place at within in
    let ends = ap length (c.deref.ensures.value ∙ (rw c.requires.none at c.in_ok-put_smaller_ends.ensures)) in
    omega (arith, here, ends, c.requires.counted)
