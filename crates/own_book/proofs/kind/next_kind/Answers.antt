use Rattle.std.proofs.Common.{◌∙◌, refl, sym}
use Rattle.own_book.specs.Answer.{kind_of}
use Rattle.own_book.proofs.Lists.{next}
use Rattle.own_book.proofs.kind.next_kind.Goals as goal

pub returns-clause-some : goal.returns-clause-some
returns-clause-some c =
    (next kind_of 32 refl c.args.kinds.now c.first_part.result.0.now c.first_part.result.1.now _
    (sym c.is_empty.ensures ∙ c.if-is_empty.false) c.requires
    (sym c.in_ok-kind.ensures.kind) c.first_part.ensures.parts).0

pub returns-clause-others : goal.returns-clause-others
returns-clause-others c =
    (next kind_of 32 refl c.args.kinds.now c.first_part.result.0.now c.first_part.result.1.now _
    (sym c.is_empty.ensures ∙ c.if-is_empty.false) c.requires
    (sym c.in_ok-kind.ensures.kind) c.first_part.ensures.parts).1
