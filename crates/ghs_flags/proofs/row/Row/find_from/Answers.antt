use Rattle.std.proofs.Common.{arith}
use Rattle.ghs_flags.proofs.Rows.{count-words_before, kth_bit}
use Rattle.ghs_flags.proofs.row.Row.find_from.Goals as goal

pub find_bit-requires-clause-some : goal.find_bit-requires-clause-some
find_bit-requires-clause-some c =
    let start = count-words_before c.self.invariant c.args.start c.requires.word (rw c.self.view_is c.requires.within) in
    let some = rw (← c.self.view_is) at c.requires.some in
    rw c.deref.ensures.value (omega arith)

pub returns : goal.returns
returns c =
    let start = count-words_before c.self.invariant c.args.start c.requires.word (rw c.self.view_is c.requires.within) in
    let nth = rw (c.deref.ensures.value, ← start) at c.find_bit.ensures in
    rw (← c.self.view_is) (kth_bit c.self.invariant _ c.find_bit.result (rw c.self.view_is c.requires.some) nth)
