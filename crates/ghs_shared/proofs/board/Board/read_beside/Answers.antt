use Rattle.std.proofs.Common.{sym, ap, ◌∙◌, arith}
use Rattle.ghs_shared.proofs.BoardMoves.{checks, splits, informs, replaces}
use Rattle.ghs_shared.proofs.board.Board.read_beside.Goals as goal

pub split_seat-told-requires : goal.split_seat-told-requires
split_seat-told-requires c =
    let t = ap (λ v. v.table) c.reader.view_is ∙ c.requires.reader ∙ sym c.self.view_is in
    let d = ap (λ t. t.shared.table_id) c.deref.ensures in
    (t ∙ sym d, rw c.deref.ensures (rw c.self.invariant (omega arith)), splits _ _)

pub join_seat-requires : goal.join_seat-requires
join_seat-requires c =
    let t = ap (λ v. v.table) c.reader.view_is ∙ c.requires.reader ∙ sym c.self.view_is in
    let p = ap (λ v. v.table) c.publisher.view_is ∙ c.requires.publisher ∙ sym c.self.view_is in
    let d = ap (λ t. t.shared.table_id) c.deref.ensures in
    let s = c.split_seat-told.ensures in
    (p ∙ sym d, s.3 ∙ t ∙ sym d, ap (λ m. m.1) s.4, rw c.deref.ensures (rw c.self.invariant (omega arith)), informs _ _ _ _)

pub load-found-requires : goal.load-found-requires
load-found-requires c =
    let p = ap (λ v. v.table) c.publisher.view_is ∙ c.requires.publisher ∙ sym c.self.view_is in
    let d = ap (λ t. t.shared.table_id) c.deref.ensures in
    let j = c.join_seat.ensures in
    let i = c.publisher.invariant in (
      j.0 ∙ p ∙ sym d,
      rw c.deref.ensures (rw c.self.invariant (omega arith)),
      checks _ _ _ (ap (λ m. m.0.publishes) j.2 ∙ ap (λ m. m.0.publishes) i.2) (ap (λ m. m.1) j.2 ∙ ap (λ m. m.1) i.2),
    )

pub split_seat-whole-requires : goal.split_seat-whole-requires
split_seat-whole-requires c =
    let p = ap (λ v. v.table) c.publisher.view_is ∙ c.requires.publisher ∙ sym c.self.view_is in
    let d = ap (λ t. t.shared.table_id) c.deref.ensures in
    let j = c.join_seat.ensures in
    let l = c.load-found.ensures in
    (l.0 ∙ j.0 ∙ p ∙ sym d, rw c.deref.ensures (rw c.self.invariant (omega arith)), splits _ _)

pub join_seat-requires-2 : goal.join_seat-requires-2
join_seat-requires-2 c =
    let t = ap (λ v. v.table) c.reader.view_is ∙ c.requires.reader ∙ sym c.self.view_is in
    let p = ap (λ v. v.table) c.publisher.view_is ∙ c.requires.publisher ∙ sym c.self.view_is in
    let d = ap (λ t. t.shared.table_id) c.deref.ensures in
    let j = c.join_seat.ensures in
    let l = c.load-found.ensures in
    let w = c.split_seat-whole.ensures in (
      c.split_seat-told.ensures.0 ∙ t ∙ sym d,
      w.3 ∙ l.0 ∙ j.0 ∙ p ∙ sym d,
      ap (λ m. m.1) w.4,
      rw c.deref.ensures (rw c.self.invariant (omega arith)),
      replaces _ _ _ _,
    )
