use Rattle.std.proofs.Common.{◌≡◌, ◌∙◌, ap, sym, List, IfNone, None, Option, Some, ℕ}
use Rattle.std.specs.Prelude.{position, slice_get}
use Rattle.own_book.specs.Entry.{Entry}
use Rattle.own_rules.specs.Questions.{asks}
use Rattle.own_rules.specs.Texts.{Text, texts_of}
use Rattle.own_rules.specs.declared.node.Lookup.{Lookup}
use Rattle.own_rules.proofs.Placing.{answer_is, answer_none, answer_past}
use Rattle.own_rules.proofs.rulebook.Rulebook.answer.Goals as goal

-- by the texts of a book the places are those of its entries
of_book : (said : List Text) (book now : List Entry) (l : Lookup) (o : Option ℕ) → said ≡ texts_of book → book ≡ now →
    o ≡ position (asks said l) book → o ≡ position (asks (texts_of now) l) now
of_book said book now l o e f h =
    h ∙ ap (λ ts. position (asks ts l) book) e ∙ ap (λ b. position (asks (texts_of b) l) b) f

if_none : {A P : Type 0} (r : Option A) → P → IfNone r P
if_none None p = p
if_none (Some x) p = tt

pub returns-in_err-place-clause-none : goal.returns-in_err-place-clause-none
returns-in_err-place-clause-none c =
    let i = c.self.invariant in
    let l = c.args.lookup in
    let at = of_book c.self.inside.texts c.self.inside.book c.args.self.now l _ i.texts c.self.view_is (c.in_err-place.ensures ∙ i.places l) in
    if_none c.from_residual.result (answer_none (texts_of c.args.self.now) c.args.self.now l (sym at))

pub returns-in_err-answer-clause-none : goal.returns-in_err-answer-clause-none
returns-in_err-answer-clause-none c =
    let i = c.self.invariant in
    let l = c.args.lookup in
    let at = of_book c.self.inside.texts c.self.inside.book c.args.self.now l _ i.texts c.self.view_is (c.in_ok-place.ensures ∙ i.places l) in
    if_none c.from_residual-in_err-answer.result (answer_past (texts_of c.args.self.now) c.args.self.now l c.in_ok-place.place (sym at)
    (ap (λ b. slice_get b c.in_ok-place.place) (sym c.self.view_is) ∙ c.in_err-answer.ensures.none))

pub returns-clause-some : goal.returns-clause-some
returns-clause-some c =
    let i = c.self.invariant in
    let l = c.args.lookup in
    let at = of_book c.self.inside.texts c.self.inside.book c.args.self.now l _ i.texts c.self.view_is (c.in_ok-place.ensures ∙ i.places l) in
    let found = c.in_ok-answer.ensures.some in
    answer_is (texts_of c.args.self.now) c.args.self.now l c.in_ok-place.place _ (sym at)
    (ap (λ b. slice_get b c.in_ok-place.place) (sym c.self.view_is) ∙ found.1)
