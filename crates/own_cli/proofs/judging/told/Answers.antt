use Rattle.std.proofs.Common.{◌∙◌, ◌++◌, ap}
use Rattle.own_cli.specs.Judging.{shortest}
use Rattle.own_cli.proofs.judging.told.Goals as goal

pub returns : goal.returns
returns c =
    let judged = c.in_ok-judgement.judgement.text.items in (
      judged,
      c.in_ok-judgement.ensures,
      c.in_ok-extend_from_slice-2.ensures.items ∙
          ap (λ t. t ++ c.deref.result.now) c.in_ok-extend_from_slice.ensures.items ∙
          ap (λ t. judged ++ shortest ++ t) (c.deref.ensures.value ∙ c.in_ok-trace.ensures),
    )
