use Rattle.std.proofs.Common.{◌≡◌, Some, get_or, sym, ◌∙◌, ap, arith}
use Rattle.std.specs.List.{slice_get}
use Rattle.std.proofs.lemmas.Option.{slice_get-get_or, slice_get_within}
use Rattle.own_judge.proofs.questions.is_noted.Goals as goal

pub returns-then-are_same-clause-yes : goal.returns-then-are_same-clause-yes
returns-then-are_same-clause-yes c t =
    let k = c.index-questions-at.result in
    let same : k ≡ c.args.question.now = sym c.bytes.ensures ∙ c.are_same.ensures.0 c.if-are_same.true ∙ c.bytes-in-loop-at.ensures in
    let lt = c.loop-at-test.true in
    let end = c.loop-at.auto.at-end in
    let here : slice_get c.args.questions.now c.loop-at.at ≡ Some (get_or c.args.questions.now c.loop-at.at k) =
    slice_get-get_or c.args.questions.now c.loop-at.at k (omega (arith, lt, end)) in
    (c.loop-at.at, here ∙ ap Some (sym c.index-questions-at.is ∙ same))

pub returns-clause-no : goal.returns-clause-no
returns-clause-no c f i e =
    let lt = slice_get_within c.args.questions.now i c.args.question.now e in
    let done = c.loop-at-test.false in
    let end = c.loop-at.auto.at-end in
    c.loop-at.invariant i (omega (arith, lt, done, end)) e
