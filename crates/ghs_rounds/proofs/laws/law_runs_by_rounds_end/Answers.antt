use Rattle.ghs_rounds.proofs.AnyOrder.{by_numbers}
use Rattle.ghs_rounds.proofs.Short.{runs_are_shorter}
use Rattle.ghs_rounds.proofs.Steps.{Promised}
use Rattle.ghs_rounds.proofs.laws.law_runs_by_rounds_end.Goals as goal

pub returns : goal.returns
returns c =
    let law : Promised =
    record {
      one = c.law_one_waits.ensures;
      requeues = c.law_requeues.ensures;
      turns = c.law_turns.ensures;
      others = c.law_others.ensures;
      awake = c.law_awake.ensures;
    } in
    λ may g turns words es r after ok all b bound by going.
    runs_are_shorter law c.law_rules.ensures c.law_patience_lasts.ensures may g ok c.law_takes.ensures c.law_ledger.ensures
    c.law_bound.ensures all b bound es r
    (by_numbers may g turns words es r after by) going
