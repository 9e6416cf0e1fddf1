use Rattle.std.proofs.Common.{[], false, sym, ap, ◌∙◌, arith}
use Rattle.ghs_shared.specs.Progress.{pair, last_of, pair_of, NoLess}
use Rattle.ghs_shared.specs.Board.{publisher_of}
use Rattle.ghs_shared.proofs.BoardMoves.{publishes}
use Rattle.ghs_shared.proofs.lemmas.Pairs.{pair_word, last_or_push}
use Rattle.ghs_shared.proofs.board.Publisher.publish.Goals as goal

pub fetch_max-requires : goal.fetch_max-requires
fetch_max-requires c =
    let i = c.self.invariant in
    let d = ap (λ t. t.shared.table_id) c.deref.ensures in
    let p = pair c.args.commits c.args.halted in
    let up : NoLess (last_of c.self.inside.seat.me.0.seen) p = rw (ap (λ v. v.list) c.self.view_is) c.requires.rising in
    let s = c.self.inside.seat in
    let m = publishes c.deref.result.now.shared.table_id.slots s.id s.me p (ap (λ m. m.0.publishes) i.2) (ap (λ m. m.1) i.2) up in
    (sym i.0 ∙ sym d, rw (c.deref.ensures, i.0, i.1) (omega arith), rw c.word_of.ensures m)

pub invariant_of-self : goal.invariant_of-self
invariant_of-self c =
    let i = c.self.invariant in
    let f = c.fetch_max.ensures in
    let p = pair c.args.commits c.args.halted in
    let seen = ap (λ m. m.0.seen) f.2 in (
      i.0 ∙ sym f.0,
      ap (λ t. t.words) f.0 ∙ i.1,
      f.2 ∙ ap (λ l. (publisher_of l, [])) (sym seen),
      sym (ap last_of seen ∙ last_or_push (pair 0 false) c.self.inside.seat.me.0.seen (pair_of c.word_of.result) ∙ ap pair_of c.word_of.ensures
          ∙ pair_word p),
    )
