use Rattle.std.proofs.Common.{◌≡◌, ◌+◌, ◌/◌, replicate, rules, refl}
use Rattle.ghs_flags.proofs.Rows.{row_lowered, flags-lowered}
use Rattle.ghs_flags.proofs.row.Row.lowered.Goals as goal

pub invariant_of-result : goal.invariant_of-result
invariant_of-result c =
    let made : c.in_ok-words.words.items ≡ replicate (c.args.len / 64 + 1) 0 = search rules in
    rw made (row_lowered _ c.args.len refl c.requires)

pub returns : goal.returns
returns c =
    let made : c.in_ok-words.words.items ≡ replicate (c.args.len / 64 + 1) 0 = search rules in
    rw made (flags-lowered _ c.args.len)
