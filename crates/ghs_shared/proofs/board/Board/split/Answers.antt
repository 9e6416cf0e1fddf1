use Rattle.std.proofs.Common.{sym, ap, ◌∙◌, arith}
use Rattle.ghs_shared.proofs.BoardMoves.{splits}
use Rattle.ghs_shared.proofs.board.Board.split.Goals as goal

pub split_seat-seat-requires : goal.split_seat-seat-requires
split_seat-seat-requires c =
    let t = ap (λ v. v.table) c.reader.view_is ∙ c.requires ∙ sym c.self.view_is in
    let d = ap (λ t. t.shared.table_id) c.deref.ensures in
    (t ∙ sym d, rw c.deref.ensures (rw c.self.invariant (omega arith)), splits _ _)
