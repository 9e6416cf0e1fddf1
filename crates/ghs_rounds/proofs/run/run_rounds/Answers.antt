use Rattle.std.proofs.Common.{subst}
use Rattle.ghs_graph.specs.Graph.{IsGraph}
use Rattle.ghs_core.specs.NetState.{NetState}
use Rattle.ghs_rounds.proofs.Running.{chain_begins, few_if_ended, few_rounds, run_begins, run_recalled}
use Rattle.ghs_rounds.proofs.run.run_rounds.Goals as goal

pub returns-then-ended-clause-run : goal.returns-then-ended-clause-run
returns-then-ended-clause-run c = run_begins c.args.world.now c.recall_all.new.self c.args.schedule.now c.requires.trace c.recall_all.ensures

pub returns-in-Err-clause-run : goal.returns-in-Err-clause-run
returns-in-Err-clause-run c = run_begins c.args.world.now c.recall_all.new.self c.args.schedule.now c.requires.trace c.recall_all.ensures

pub returns-then-ended-clause-chain : goal.returns-then-ended-clause-chain
returns-then-ended-clause-chain c = chain_begins c.args.world.now c.recall_all.new.self c.requires.trace c.recall_all.ensures

pub returns-in-Err-clause-chain : goal.returns-in-Err-clause-chain
returns-in-Err-clause-chain c = chain_begins c.args.world.now c.recall_all.new.self c.requires.trace c.recall_all.ensures

pub returns-in-Ok-clause-run : goal.returns-in-Ok-clause-run
returns-in-Ok-clause-run c = run_recalled _ _ _ _ _ _ c.recall_all.ensures c.run_on.ensures.run

pub returns-in-Ok-clause-few : goal.returns-in-Ok-clause-few
returns-in-Ok-clause-few c =
    let ok = subst (λ (n : NetState). IsGraph n.graph) c.net.ensures.net c.trace.ensures.graph in
    few_if_ended c.law_picks_are_by_rounds.ensures c.law_rounds_are_fewer.ensures c.law_awake_rounds.ensures c.law_simple_rounds.ensures
    c.args.world.now _ _ _ _ _ ok (run_recalled _ _ _ _ _ _ c.recall_all.ensures c.run_on.ensures.run) c.run_on.ensures.halted

pub returns-then-ended-clause-few : goal.returns-then-ended-clause-few
returns-then-ended-clause-few c =
    let ok = subst (λ (n : NetState). IsGraph n.graph) c.net.ensures.net c.trace.ensures.graph in
    few_rounds c.law_picks_are_by_rounds.ensures c.law_rounds_are_fewer.ensures c.law_awake_rounds.ensures c.law_simple_rounds.ensures
    c.args.world.now c.recall_all.new.self _ _ 0 ok
    (run_begins c.args.world.now c.recall_all.new.self c.args.schedule.now c.requires.trace c.recall_all.ensures)
    (c.ended.ensures.ended.0 c.if-ended.true)
