use Rattle.ghs_rounds.proofs.Awake.{from_few}
use Rattle.ghs_rounds.proofs.Sent.{by_moments, goes_by_numbers}
use Rattle.ghs_rounds.proofs.Steps.{Promised}
use Rattle.ghs_rounds.proofs.laws.law_woken_rounds.Goals as goal

pub returns : goal.returns
returns c =
    let law : Promised =
    record {
      one = c.law_one_waits.ensures;
      requeues = c.law_requeues.ensures;
      turns = c.law_turns.ensures;
      others = c.law_others.ensures;
      awake = c.law_awake.ensures;
    } in
    λ may g es fs s r before sent ok by up k log d few goes ended.
    let begun = by_moments law c.law_rules.ensures c.law_patience_lasts.ensures may g ok es s before by in
    from_few law c.law_rules.ensures c.law_patience_lasts.ensures may g ok k log d few es s begun.0 (λ v is. up v is.some is.node) fs r
    (goes_by_numbers law c.law_rules.ensures c.law_patience_lasts.ensures may g ok es s before begun fs r sent goes).0 ended
