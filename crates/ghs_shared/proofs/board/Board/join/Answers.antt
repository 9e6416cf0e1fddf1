use Rattle.std.proofs.Common.{sym, ap, ◌∙◌, arith}
use Rattle.ghs_shared.proofs.BoardMoves.{reads, informs}
use Rattle.ghs_shared.proofs.board.Board.join.Goals as goal

pub join_seat-requires : goal.join_seat-requires
join_seat-requires c =
    let t = ap (λ v. v.table) c.reader.view_is ∙ c.requires.first ∙ sym c.self.view_is in
    let o = ap (λ v. v.table) c.other.view_is ∙ c.requires.second ∙ sym c.self.view_is in
    let d = ap (λ t. t.shared.table_id) c.deref.ensures in
    (t ∙ sym d, o ∙ sym d, ap (λ m. m.1) c.other.invariant, rw c.deref.ensures (rw c.self.invariant (omega arith)), informs _ _ _ _)

pub load-requires : goal.load-requires
load-requires c =
    let t = ap (λ v. v.table) c.reader.view_is ∙ c.requires.first ∙ sym c.self.view_is in
    let d = ap (λ t. t.shared.table_id) c.deref-2.ensures in
    let j = c.join_seat.ensures in
    let i = c.reader.invariant in (
      j.0 ∙ t ∙ sym d,
      rw c.deref-2.ensures (rw c.self.invariant (omega arith)),
      reads _ _ _ (ap (λ m. m.0.publishes) j.2 ∙ ap (λ m. m.0.publishes) i) (ap (λ m. m.1) j.2 ∙ ap (λ m. m.1) i),
    )
