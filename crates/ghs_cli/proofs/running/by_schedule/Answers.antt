use Rattle.std.proofs.Common.{rules}
use Rattle.ghs_cli.proofs.Runs.{rounds_by_schedule, stopped_by_schedule, stops_at_limit, stops_for, whole_by_schedule}
use Rattle.ghs_answers.specs.declared.fault.ServeFault.TheVariants as serve
use Rattle.ghs_cli.proofs.running.by_schedule.Goals as goal

pub returns-in-Ok-clause-whole : goal.returns-in-Ok-clause-whole
returns-in-Ok-clause-whole c =
    let ran = c.run_timed-rounds in
    whole_by_schedule c.args.options.now c.args.world ran.new.world c.turns.result ran.result.1 c.in-Ok.end c.requires.opened ran.ensures.graph
    ran.ensures.wake ran.ensures.turns
    c.net.ensures.run c.turns.ensures.turns c.turns.ensures.fits (search rules) ran.ensures.whole ran.ensures.halted

pub returns-in-Err-TurnLimit-clause-stops : goal.returns-in-Err-TurnLimit-clause-stops
returns-in-Err-TurnLimit-clause-stops c =
    let ran = c.run_timed-rounds in
    stops_at_limit c.args.options.now ran.new.world
    (stopped_by_schedule c.args.options.now c.args.world ran.new.world c.turns.result ran.result.1 c.requires.opened ran.ensures.graph
    ran.ensures.wake ran.ensures.turns
    c.net.ensures.run c.turns.ensures.turns c.turns.ensures.fits ran.ensures.limit ran.ensures.fault ran.ensures.going (search rules))

pub returns-in-Ok-clause-rounds : goal.returns-in-Ok-clause-rounds
returns-in-Ok-clause-rounds c =
    let ran = c.run_timed-rounds in
    rounds_by_schedule c.args.options.now c.args.world ran.new.world ran.result.0 c.requires.opened c.requires.alone ran.ensures.graph
    ran.ensures.rounds

pub returns-in-Err-TurnLimit-clause-rounds : goal.returns-in-Err-TurnLimit-clause-rounds
returns-in-Err-TurnLimit-clause-rounds c =
    let ran = c.run_timed-rounds in
    rounds_by_schedule c.args.options.now c.args.world ran.new.world ran.result.0 c.requires.opened c.requires.alone ran.ensures.graph
    ran.ensures.rounds

pub returns-in-Err-Memory-clause-rounds : goal.returns-in-Err-Memory-clause-rounds
returns-in-Err-Memory-clause-rounds c =
    let ran = c.run_timed-rounds in
    rounds_by_schedule c.args.options.now c.args.world ran.new.world ran.result.0 c.requires.opened c.requires.alone ran.ensures.graph
    ran.ensures.rounds

pub returns-in-Err-Memory-clause-stops : goal.returns-in-Err-Memory-clause-stops
returns-in-Err-Memory-clause-stops c = stops_for c.args.options.now c.run_timed-rounds.new.world serve.Memory tt (λ limit. cc)
