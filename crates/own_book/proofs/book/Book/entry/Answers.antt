use Rattle.std.proofs.Common.{◌∙◌, ap, sym}
use Rattle.std.specs.Prelude.{slice_get}
use Rattle.own_book.proofs.Entries.{view-get, view-none}
use Rattle.own_book.proofs.book.Book.entry.Goals as goal

pub returns-in-Some-clause-some : goal.returns-in-Some-clause-some
returns-in-Some-clause-some c = (
  c.in-Some.told.now.line,
  ap (λ es. slice_get es c.args.index) (sym c.self.view_is)
      ∙ view-get (λ k. k.items) (λ t. t.line) (λ t. t.answer.items) c.self.inside.told.entries c.args.index c.in-Some.question.now c.in-Some.told.now
      c.as_slice.result.now c.as_slice-in-Some.result.now (sym c.in-Some.ensures.entry) c.as_slice.ensures.value c.as_slice-in-Some.ensures.value,
)

pub returns-in-None-clause-none : goal.returns-in-None-clause-none
returns-in-None-clause-none c =
    ap (λ es. slice_get es c.args.index) (sym c.self.view_is)
    ∙ view-none (λ k. k.items) (λ t. t.line) (λ t. t.answer.items) c.self.inside.told.entries c.args.index (sym c.in-None.ensures.entry)
