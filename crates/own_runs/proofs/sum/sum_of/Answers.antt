use Rattle.std.proofs.Common.{arith}
use Rattle.own_runs.proofs.Hashing.{hashed_more}
use Rattle.own_runs.proofs.sum.sum_of.Goals as goal

pub loop-index-preserved : goal.loop-index-preserved
loop-index-preserved c =
    hashed_more c.args.book.now c.loop-index.index c.loop-index.hasher c.add_entry.new.hasher (omega arith) c.loop-index.invariant
    c.add_entry.ensures
