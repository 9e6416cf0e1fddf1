use Rattle.std.proofs.Common.{arith}
use Rattle.ghs_shared.proofs.BoardMoves.{begins, splits}
use Rattle.ghs_shared.proofs.board.Board.open.Goals as goal

pub of_words-requires : goal.of_words-requires
of_words-requires c = rw c.word_of-start.ensures (begins c.args.first)

pub split_seat-read-requires : goal.split_seat-read-requires
split_seat-read-requires c = let e = c.in_ok-table.ensures in (e.2, rw e.0 (omega arith), splits _ _)
