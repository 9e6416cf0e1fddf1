use Rattle.std.proofs.Common.{arith}
use Rattle.ghs_rounds.proofs.Awake.{rounds_are_few}
use Rattle.ghs_rounds.proofs.Sent.{by_moments}
use Rattle.ghs_rounds.proofs.Steps.{Promised}
use Rattle.ghs_rounds.proofs.Told.{rounds_are_chains}
use Rattle.ghs_rounds.proofs.laws.law_awake_chains.Goals as goal

pub returns : goal.returns
returns c =
    let law : Promised =
    record {
      one = c.law_one_waits.ensures;
      requeues = c.law_requeues.ensures;
      turns = c.law_turns.ensures;
      others = c.law_others.ensures;
      awake = c.law_awake.ensures;
    } in
    λ may g es r sent ok wake k log d few by ended.
    let num = (by_moments law c.law_rules.ensures c.law_patience_lasts.ensures may g ok es r sent by).0 in
    let rounds = rounds_are_few law c.law_rules.ensures c.law_patience_lasts.ensures may g ok k log d few wake es r num ended in
    let same = rounds_are_chains law c.law_rules.ensures c.law_patience_lasts.ensures may g ok es r num ended in
    omega (arith, rounds, same)
