use Rattle.ghs_rounds.proofs.Sent.{picks_by_moments, picks_by_rounds}
use Rattle.ghs_rounds.proofs.Steps.{Promised}
use Rattle.ghs_rounds.proofs.laws.law_picks_are_by_moments.Goals as goal

pub returns : goal.returns
returns c =
    let law : Promised =
    record {
      one = c.law_one_waits.ensures;
      requeues = c.law_requeues.ensures;
      turns = c.law_turns.ensures;
      others = c.law_others.ensures;
      awake = c.law_awake.ensures;
    } in
    λ may g turns words es r after ok. (
      λ by. let t = picks_by_rounds law c.law_rules.ensures c.law_patience_lasts.ensures may g ok turns words es r after by in (t.0, t.2),
      λ t. (picks_by_moments law c.law_rules.ensures c.law_patience_lasts.ensures may g ok turns words es r after t.0 t.1).0,
    )
