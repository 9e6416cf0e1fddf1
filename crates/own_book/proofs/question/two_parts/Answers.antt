use Rattle.own_book.proofs.Cuts.{not_two}
use Rattle.own_book.proofs.question.two_parts.Goals as goal

pub returns-in-Some-clause-none : goal.returns-in-Some-clause-none
returns-in-Some-clause-none c =
    not_two c.args.line.now c.in_ok-first.rest.now c.in-Some.field-0.1.now _ _
    c.in_ok-first.ensures.parts c.in-Some.ensures.parts
