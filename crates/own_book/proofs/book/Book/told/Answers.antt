use Rattle.std.proofs.Common.{◌∙◌, ap, sym, ℕ, List, Some}
use Rattle.own_book.specs.Entry.{entry_for, told_in}
use Rattle.own_book.proofs.Entries.{found, missing}
use Rattle.own_book.proofs.book.Book.told.Goals as goal

pub returns-in-Some-clause-some : goal.returns-in-Some-clause-some
returns-in-Some-clause-some c =
    let q = c.args.question.now in
    ap (λ es. told_in es q) (sym c.self.view_is)
    ∙ found (λ k. k.items) (λ t. t.line) (λ t. t.answer.items) q c.self.inside.told.entries c.in-Some.told.now (sym c.in-Some.ensures.value)
    ∙ ap (λ (a : List ℕ). Some (c.in-Some.told.now.line, a)) (sym c.as_slice.ensures.value)

pub returns-in-None-clause-none : goal.returns-in-None-clause-none
returns-in-None-clause-none c =
    let q = c.args.question.now in
    ap (λ es. entry_for es q) (sym c.self.view_is)
    ∙ missing (λ k. k.items) (λ t. t.line) (λ t. t.answer.items) q c.self.inside.told.entries (sym c.in-None.ensures.value)
