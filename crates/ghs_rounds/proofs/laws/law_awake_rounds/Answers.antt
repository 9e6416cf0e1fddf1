use Rattle.ghs_rounds.proofs.Awake.{rounds_are_few}
use Rattle.ghs_rounds.proofs.Sent.{by_moments}
use Rattle.ghs_rounds.proofs.Steps.{Promised}
use Rattle.ghs_rounds.proofs.laws.law_awake_rounds.Goals as goal

pub returns : goal.returns
returns c =
    let law : Promised =
    record {
      one = c.law_one_waits.ensures;
      requeues = c.law_requeues.ensures;
      turns = c.law_turns.ensures;
      others = c.law_others.ensures;
      awake = c.law_awake.ensures;
    } in
    λ may g es r sent ok wake k log d few by ended.
    rounds_are_few law c.law_rules.ensures c.law_patience_lasts.ensures may g ok k log d few wake es r
    (by_moments law c.law_rules.ensures c.law_patience_lasts.ensures may g ok es r sent by).0 ended
