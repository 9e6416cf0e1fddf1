use Rattle.std.proofs.Common.{◌∙◌, add-one, arith}
use Rattle.own_book.proofs.Cuts.{cut_at-first, cut_at-none, not_true, parts_at-first, parts_at-none}
use Rattle.own_book.proofs.parts.cut.Goals as goal

pub returns-in-Some-clause-some : goal.returns-in-Some-clause-some
returns-in-Some-clause-some c =
    let h = c.in-Some.ensures in
    cut_at-first c.args.byte c.in-Some.end c.args.text.now h.0.high (λ k l. not_true _ (h.0.before k (omega arith) l)) h.1
    ∙ cc (c.split_at.ensures.front, c.split_at-in-Some.ensures.back, add-one c.in-Some.end)

pub returns-in-Some-clause-parts : goal.returns-in-Some-clause-parts
returns-in-Some-clause-parts c =
    let h = c.in-Some.ensures in
    parts_at-first c.args.byte c.in-Some.end c.args.text.now h.0.high (λ k l. not_true _ (h.0.before k (omega arith) l)) h.1
    ∙ cc (c.split_at.ensures.front, c.split_at-in-Some.ensures.back, add-one c.in-Some.end)

pub returns-in-None-clause-none : goal.returns-in-None-clause-none
returns-in-None-clause-none c = cut_at-none c.args.byte c.args.text.now (λ k l. not_true _ (c.in-None.ensures k (omega arith) l))

pub returns-in-None-clause-whole : goal.returns-in-None-clause-whole
returns-in-None-clause-whole c = parts_at-none c.args.byte c.args.text.now (λ k l. not_true _ (c.in-None.ensures k (omega arith) l))
