use Rattle.std.proofs.Common.{refl, subst}
use Rattle.ghs_core.specs.NetState.{NetState}
use Rattle.ghs_graph.specs.Graph.{IsGraph}
use Rattle.ghs_sched.specs.Picks.{lawful_events}
use Rattle.ghs_patient.specs.Runs.{patient_after}
use Rattle.ghs_orders.specs.WaitsRuns.{waiting_after}
use Rattle.ghs_picking.proofs.BySeed.{HasGoneOn, Laws, at_limit_by_rounds, at_limit_in_turn, at_limit_last, at_limit_patient, at_limit_waiting, gone_among, gone_by_rounds, gone_in_turn, gone_last, is_in_rounds, is_seeded, on_ok_by_rounds, on_ok_in_turn, on_ok_last, on_ok_patient, on_ok_seeded, on_ok_waiting}
use Rattle.ghs_picking.proofs.picking.run_timed.Goals as goal

pub returns-in-Seeded-clause-whole : goal.returns-in-Seeded-clause-whole
returns-in-Seeded-clause-whole c =
    let ran = c.run_seeded in
    let gone : HasGoneOn c.args.world.now ran.new.world =
    gone_among lawful_events c.args.world.now ran.new.world c.seeded-schedule.result ran.new.schedule c.turns.result c.requires.trace
    c.requires.numbers c.turns.ensures.turns c.turns.ensures.few ran.ensures.run in
    rw c.in-Seeded.is (on_ok_seeded c.args.seed c.args.world.now ran.new.world c.seeded-schedule.result ran.new.schedule ran.result
    c.seeded-schedule.ensures gone ran.ensures.whole)

pub returns-in-Seeded-clause-limit : goal.returns-in-Seeded-clause-limit
returns-in-Seeded-clause-limit c =
    let ran = c.run_seeded in
    let gone : HasGoneOn c.args.world.now ran.new.world =
    gone_among lawful_events c.args.world.now ran.new.world c.seeded-schedule.result ran.new.schedule c.turns.result c.requires.trace
    c.requires.numbers c.turns.ensures.turns c.turns.ensures.few ran.ensures.run in
    rw c.in-Seeded.is (λ limit. is_seeded c.args.seed c.args.world.now ran.new.world c.seeded-schedule.result ran.new.schedule
    c.seeded-schedule.ensures gone (ran.ensures.limit limit gone.numbers))

pub returns-in-Patient-clause-whole : goal.returns-in-Patient-clause-whole
returns-in-Patient-clause-whole c =
    let ran = c.run_patient in
    let gone : HasGoneOn c.args.world.now ran.new.world =
    gone_among patient_after c.args.world.now ran.new.world c.seeded-schedule.result ran.new.schedule c.turns.result c.requires.trace
    c.requires.numbers c.turns.ensures.turns c.turns.ensures.few ran.ensures.run in
    rw c.in-Patient.is
    (on_ok_patient c.args.seed c.args.world.now ran.new.world c.seeded-schedule.result ran.new.schedule ran.result c.seeded-schedule.ensures gone
    ran.ensures.run ran.ensures.short ran.ensures.halted)

pub returns-in-Patient-clause-limit : goal.returns-in-Patient-clause-limit
returns-in-Patient-clause-limit c =
    let ran = c.run_patient in
    let gone : HasGoneOn c.args.world.now ran.new.world =
    gone_among patient_after c.args.world.now ran.new.world c.seeded-schedule.result ran.new.schedule c.turns.result c.requires.trace
    c.requires.numbers c.turns.ensures.turns c.turns.ensures.few ran.ensures.run in
    rw c.in-Patient.is
    (λ limit. at_limit_patient c.args.seed c.args.world.now ran.new.world c.seeded-schedule.result ran.new.schedule c.turns.result ran.result
    c.seeded-schedule.ensures gone c.requires.numbers
    c.turns.ensures.turns c.turns.ensures.few ran.ensures.run ran.ensures.short ran.ensures.fault ran.ensures.ends limit)

laws_of : (c : goal.After-run_rounds-rounds) → Laws
laws_of c = record {
  chains = c.law_rounds_are_chains.ensures;
  few = c.law_rounds_are_few.ensures;
  picks = c.law_picks_are_by_rounds.ensures;
  awake = c.law_awake_rounds.ensures;
  fewer = c.law_rounds_are_fewer.ensures;
  short = c.law_runs_by_rounds_are_short.ensures;
  end = c.law_runs_by_rounds_end.ensures;
}

graph_of : (c : goal.After-run_rounds-rounds) → IsGraph c.args.world.now.net.graph
graph_of c = subst (λ (n : NetState). IsGraph n.graph) c.net.ensures.net c.trace.ensures.graph

pub returns-in-Rounds-clause-rounds : goal.returns-in-Rounds-clause-rounds
returns-in-Rounds-clause-rounds c =
    let ran = c.run_rounds-rounds in
    rw c.in-Rounds.is (
      ran.result.0,
      refl,
      is_in_rounds (laws_of c) c.args.seed c.args.world.now ran.new.world c.seeded-schedule.result ran.new.schedule ran.result.0
          (graph_of c) c.seeded-schedule.ensures ran.ensures.run,
    )

pub returns-in-Rounds-clause-whole : goal.returns-in-Rounds-clause-whole
returns-in-Rounds-clause-whole c =
    let ran = c.run_rounds-rounds in
    let gone : HasGoneOn c.args.world.now ran.new.world =
    gone_by_rounds c.args.world.now ran.new.world c.seeded-schedule.result ran.new.schedule c.turns.result ran.result.0 c.requires.trace
    c.requires.numbers c.turns.ensures.turns c.turns.ensures.few ran.ensures.run in
    rw c.in-Rounds.is
    (on_ok_by_rounds (laws_of c) c.args.seed c.args.world.now ran.new.world c.seeded-schedule.result ran.new.schedule ran.result.0 ran.result.1
    (graph_of c) c.seeded-schedule.ensures gone ran.ensures.run ran.ensures.halted)

pub returns-in-Rounds-clause-limit : goal.returns-in-Rounds-clause-limit
returns-in-Rounds-clause-limit c =
    let ran = c.run_rounds-rounds in
    let gone : HasGoneOn c.args.world.now ran.new.world =
    gone_by_rounds c.args.world.now ran.new.world c.seeded-schedule.result ran.new.schedule c.turns.result ran.result.0 c.requires.trace
    c.requires.numbers c.turns.ensures.turns c.turns.ensures.few ran.ensures.run in
    rw c.in-Rounds.is
    (λ limit. at_limit_by_rounds (laws_of c) c.args.seed c.args.world.now ran.new.world c.seeded-schedule.result ran.new.schedule ran.result.0
    ran.result.1 (graph_of c) c.seeded-schedule.ensures gone ran.ensures.run ran.ensures.fault ran.ensures.going limit)

pub returns-in-Waits-clause-whole : goal.returns-in-Waits-clause-whole
returns-in-Waits-clause-whole c =
    let ran = c.run_waiting in
    let gone : HasGoneOn c.args.world.now ran.new.world =
    gone_among waiting_after c.args.world.now ran.new.world c.seeded-schedule.result ran.new.schedule c.turns.result c.requires.trace
    c.requires.numbers c.turns.ensures.turns c.turns.ensures.few ran.ensures.run in
    rw c.in-Waits.is
    (on_ok_waiting c.args.seed c.args.world.now ran.new.world c.seeded-schedule.result ran.new.schedule ran.result c.seeded-schedule.ensures gone
    ran.ensures.run ran.ensures.halted)

pub returns-in-Waits-clause-limit : goal.returns-in-Waits-clause-limit
returns-in-Waits-clause-limit c =
    let ran = c.run_waiting in
    let gone : HasGoneOn c.args.world.now ran.new.world =
    gone_among waiting_after c.args.world.now ran.new.world c.seeded-schedule.result ran.new.schedule c.turns.result c.requires.trace
    c.requires.numbers c.turns.ensures.turns c.turns.ensures.few ran.ensures.run in
    rw c.in-Waits.is
    (λ limit. at_limit_waiting c.args.seed c.args.world.now ran.new.world c.seeded-schedule.result ran.new.schedule ran.result
    c.seeded-schedule.ensures gone ran.ensures.run ran.ensures.fault limit)

pub returns-in-Lifo-clause-whole : goal.returns-in-Lifo-clause-whole
returns-in-Lifo-clause-whole c =
    let ran = c.run_lifo in
    let gone : HasGoneOn c.args.world.now ran.new.world =
    gone_last c.args.world.now ran.new.world c.seeded-schedule.result ran.new.schedule c.turns.result c.requires.trace
    c.requires.numbers c.turns.ensures.turns c.turns.ensures.few ran.ensures.run in
    rw c.in-Lifo.is
    (on_ok_last c.args.seed c.args.world.now ran.new.world c.seeded-schedule.result ran.new.schedule ran.result c.seeded-schedule.ensures gone
    ran.ensures.run ran.ensures.short ran.ensures.halted)

pub returns-in-Lifo-clause-limit : goal.returns-in-Lifo-clause-limit
returns-in-Lifo-clause-limit c =
    let ran = c.run_lifo in
    let gone : HasGoneOn c.args.world.now ran.new.world =
    gone_last c.args.world.now ran.new.world c.seeded-schedule.result ran.new.schedule c.turns.result c.requires.trace
    c.requires.numbers c.turns.ensures.turns c.turns.ensures.few ran.ensures.run in
    rw c.in-Lifo.is
    (λ limit. at_limit_last c.args.seed c.args.world.now ran.new.world c.seeded-schedule.result ran.new.schedule c.turns.result ran.result
    c.seeded-schedule.ensures gone c.requires.numbers
    c.turns.ensures.turns c.turns.ensures.few ran.ensures.run ran.ensures.short ran.ensures.fault ran.ensures.ends limit)

pub returns-in-RoundRobin-clause-whole : goal.returns-in-RoundRobin-clause-whole
returns-in-RoundRobin-clause-whole c =
    let ran = c.run_round_robin in
    let gone : HasGoneOn c.args.world.now ran.new.world =
    gone_in_turn c.args.world.now ran.new.world c.turns.result c.requires.trace c.requires.numbers c.turns.ensures.turns c.turns.ensures.few
    ran.ensures.run in
    rw c.in-RoundRobin.is
    (on_ok_in_turn c.args.world.now ran.new.world ran.result gone ran.ensures.run ran.ensures.laps ran.ensures.short ran.ensures.halted)

pub returns-in-RoundRobin-clause-limit : goal.returns-in-RoundRobin-clause-limit
returns-in-RoundRobin-clause-limit c =
    let ran = c.run_round_robin in
    let gone : HasGoneOn c.args.world.now ran.new.world =
    gone_in_turn c.args.world.now ran.new.world c.turns.result c.requires.trace c.requires.numbers c.turns.ensures.turns c.turns.ensures.few
    ran.ensures.run in
    rw c.in-RoundRobin.is
    (λ limit. at_limit_in_turn c.args.world.now ran.new.world c.turns.result ran.result gone c.requires.numbers
    c.turns.ensures.turns c.turns.ensures.few ran.ensures.run ran.ensures.laps ran.ensures.short ran.ensures.fault ran.ensures.ends limit)
