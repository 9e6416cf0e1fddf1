use Rattle.std.proofs.Common.{◌≡◌, ◌∙◌, ◌++◌, ◌∷◌, [], ap, ap₂, refl, ℕ, List, None}
use Rattle.std.specs.Str.{bytes_eq}
use Rattle.own_book.specs.Entry.{Entry, entry, entry_for}
use Rattle.own_book.proofs.Entries.{view, view-added}
use Rattle.own_book.proofs.book.Book.add.Goals as goal

pub returns-in-Ok : goal.returns-in-Ok
returns-in-Ok c =
    let key = c.in_ok-question.question in
    let old = c.self.inside.told.entries in
    let before : view (λ k. k.items) (λ t. t.line) (λ t. t.answer.items) old ≡ c.args.self.now = c.self.view_is in
    let absent : entry_for (view (λ k. k.items) (λ t. t.line) (λ t. t.answer.items) old) key.items ≡ None =
    ap₂ entry_for before c.in_ok-question.ensures.items ∙ c.requires in
    ap (view (λ k. k.items) (λ t. t.line) (λ t. t.answer.items)) c.in-Ok.ensures.entries
    ∙ view-added (λ k. k.items) (λ t. t.line) (λ t. t.answer.items) (λ k o. bytes_eq k.items o.items) key _ (λ o. refl) old absent
    ∙ ap₂ (λ (es : List Entry) (e : Entry). es ++ e ∷ []) before
    (ap₂ (λ (q a : List ℕ). entry q c.args.line a) c.in_ok-question.ensures.items c.in_ok-answer.ensures.items)
