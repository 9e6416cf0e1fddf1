use Rattle.std.proofs.Common.{arith}
use Rattle.ghs_flags.proofs.Ranks.{length-flags_of, first-flags_of}
use Rattle.ghs_flags.proofs.Rows.{place_within}
use Rattle.ghs_flags.proofs.row.Row.first_between.Goals as goal

pub first_bit_between-requires-clause-within : goal.first_bit_between-requires-clause-within
first_bit_between-requires-clause-within c =
    let lt = place_within c.self.invariant c.args.end (rw c.self.view_is c.requires) in
    rw c.deref.ensures.value (omega arith)

pub returns : goal.returns
returns c =
    let le = rw (← c.self.view_is, length-flags_of) at c.requires in
    let first = rw c.deref.ensures.value at c.first_bit_between.ensures in
    rw (← c.self.view_is) (first-flags_of c.self.inside.words.items c.self.inside.len c.args.start c.args.end le c.first_bit_between.result first)
