use Rattle.std.proofs.Common.{arith}
use Rattle.own_rules.proofs.Numbering.{texts_more}
use Rattle.own_rules.proofs.texts.texts_of.Goals as goal

pub loop-index-preserved : goal.loop-index-preserved
loop-index-preserved c =
    let lt = c.loop-index-test.true in
    let many = c.len-index-end.ensures in
    texts_more c.args.book.now c.loop-index.index c.loop-index.texts c.note_entry.new.self (omega arith) c.loop-index.invariant
    c.in_ok-note_entry.ensures
