use Rattle.ghs_outcomes.specs.Outcomes.{by_any}
use Rattle.ghs_outcomes.proofs.Telling.{small_by, told_if}
use Rattle.ghs_outcomes.proofs.any.told_by.Goals as goal

pub returns-in-Ok : goal.returns-in-Ok
returns-in-Ok g c =
    told_if (by_any g.P.Protocol.rules g.P.Spoken.words.kind g.P.Protocol.bound c.args.protocol) c.args.graph.now c.args.wake c.args.limit
    c.outcomes_text.result (λ text. text.items) (small_by c.args.graph.now (λ no. let wrong = c.in-Ok.ensures.large.1 no in cc))
    c.outcomes_text.ensures
