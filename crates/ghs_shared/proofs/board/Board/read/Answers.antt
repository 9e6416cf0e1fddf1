use Rattle.std.proofs.Common.{◌≡◌, sym, ap, ◌∙◌, subst, arith}
use Rattle.ghs_shared.specs.declared.progress.Progress.{Progress}
use Rattle.ghs_shared.specs.Progress.{last_of, pair_of, NoLess}
use Rattle.ghs_shared.proofs.BoardMoves.{reads}
use Rattle.ghs_shared.proofs.lemmas.Pairs.{pair_word, later_no_less}
use Rattle.ghs_shared.proofs.board.Board.read.Goals as goal

pub load-requires : goal.load-requires
load-requires c =
    let t = ap (λ v. v.table) c.reader.view_is ∙ c.requires ∙ sym c.self.view_is in
    let d = ap (λ t. t.shared.table_id) c.deref.ensures in (
      t ∙ sym d,
      rw c.deref.ensures (rw c.self.invariant (omega arith)),
      reads _ _ _ (ap (λ m. m.0.publishes) c.reader.invariant) (ap (λ m. m.1) c.reader.invariant),
    )

pub returns-clause-rising : goal.returns-clause-rising
returns-clause-rising c =
    let l = c.load.ensures.2 in
    let seen = c.load.new.seat.me.0.seen in
    let same : c.pair_of.result ≡ last_of seen = c.pair_of.ensures ∙ ap pair_of l.5 ∙ pair_word (last_of seen) in
    let no_less = later_no_less seen c.reader.inside.seat.me.0.seen l.1 l.3 in
    let P : Progress → Progress → Type 0 = λ a b. NoLess a b in
    rw (← c.reader.view_is) (subst (P (last_of c.reader.inside.seat.me.0.seen)) (sym same) no_less)
