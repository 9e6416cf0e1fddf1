use Rattle.std.proofs.Common.{arith}
use Rattle.ghs_flags.proofs.Rows.{place_within, count-front, count-words_before}
use Rattle.ghs_flags.proofs.row.Row.count_between.Goals as goal

pub count_from-requires-clause-within : goal.count_from-requires-clause-within
count_from-requires-clause-within c = rw c.deref.ensures.value (place_within c.self.invariant c.args.end (rw c.self.view_is c.requires.within))

pub returns : goal.returns
returns c =
    let within = rw (← c.self.view_is) at c.requires.within in
    let start = count-words_before c.self.invariant c.args.start c.requires.word (omega arith) in
    let end = count-front c.self.invariant c.args.end within in
    let between = rw c.deref.ensures.value at c.count_from.ensures in
    rw (← c.self.view_is) (omega arith)
