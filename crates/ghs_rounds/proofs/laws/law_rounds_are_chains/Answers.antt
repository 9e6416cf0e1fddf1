use Rattle.ghs_rounds.proofs.AnyOrder.{by_numbers}
use Rattle.ghs_rounds.proofs.Steps.{Promised}
use Rattle.ghs_rounds.proofs.Told.{rounds_are_chains}
use Rattle.ghs_rounds.proofs.laws.law_rounds_are_chains.Goals as goal

pub returns : goal.returns
returns c =
    let law : Promised =
    record {
      one = c.law_one_waits.ensures;
      requeues = c.law_requeues.ensures;
      turns = c.law_turns.ensures;
      others = c.law_others.ensures;
      awake = c.law_awake.ensures;
    } in
    λ may g turns words es r after ok by ended.
    rounds_are_chains law c.law_rules.ensures c.law_patience_lasts.ensures may g ok es r (by_numbers may g turns words es r after by) ended
