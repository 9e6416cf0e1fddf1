use Rattle.std.proofs.Common.{◌∙◌, arith}
use Rattle.own_book.proofs.Signs.{at_from, cut_at_sign-first, cut_at_sign-none, occurs_from}
use Rattle.own_book.proofs.line.at_sign.Goals as goal

pub returns-in-Some-clause-some : goal.returns-in-Some-clause-some
returns-in-Some-clause-some c =
    let h = c.in-Some.ensures in
    let line = c.args.line.now in
    cut_at_sign-first c.in-Some.at line (at_from line c.in-Some.at h.1) (λ k l i. h.0.before k (omega arith) l (occurs_from line k i))
    ∙ cc (c.split_at.ensures.front, c.split_at-in-Some.ensures.back)

pub returns-in-None-clause-none : goal.returns-in-None-clause-none
returns-in-None-clause-none c =
    let line = c.args.line.now in
    cut_at_sign-none line (λ k i. c.in-None.ensures k (omega arith) (let f = i.fits in omega arith) (occurs_from line k i))
