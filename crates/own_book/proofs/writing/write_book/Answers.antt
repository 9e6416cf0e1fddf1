use Rattle.std.proofs.Common.{arith}
use Rattle.own_book.proofs.Written.{one_more}
use Rattle.own_book.proofs.writing.write_book.Goals as goal

pub loop-index-preserved : goal.loop-index-preserved
loop-index-preserved c =
    one_more c.args.book.now c.loop-index.index c.loop-index.text.items c.put_entry.new.text.items (omega arith) c.loop-index.invariant
    c.in_ok-put_entry.ensures
