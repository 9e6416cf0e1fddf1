use Rattle.std.proofs.Common.{◌∙◌, ap}
use Rattle.own_book.specs.Answer.{saying}
use Rattle.own_rules.proofs.Readying.{ready_where}
use Rattle.own_rules.proofs.ready.ready_at.Goals as goal

pub returns : goal.returns
returns c =
    let said = c.in-Some.ensures.some in
    ready_where c.args.texts.now c.args.kinds.now c.args.book.now c.args.index said.0 c.in-Some-lookup_at.lookup _
    c.in-Some.answer.now _ c.ready_by.result c.in-Some-lookup_at.ensures said.1
    (c.read_answer.ensures.says ∙ ap (λ a. saying a c.in-Some.answer.now) c.asked_for.ensures) c.ready_by.ensures
