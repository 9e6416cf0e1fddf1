use Rattle.ghs_cli.proofs.Runs.{stops_for, whole_threads}
use Rattle.ghs_answers.specs.declared.fault.ServeFault.TheVariants as serve
use Rattle.ghs_cli.proofs.running.end_of.Goals as goal

pub returns-in-Ok-clause-whole : goal.returns-in-Ok-clause-whole
returns-in-Ok-clause-whole c =
    whole_threads c.args.options.now c.args.world.now c.turns.result c.args.end c.in-Ok.end
    c.requires.workers c.requires.wake c.requires.turns c.net.ensures.run c.turns.ensures.turns c.turns.ensures.fits c.in-Ok.is c.requires.end

pub returns-in-Err-Memory-clause-stops : goal.returns-in-Err-Memory-clause-stops
returns-in-Err-Memory-clause-stops c = stops_for c.args.options.now c.args.world.now serve.Memory tt (λ limit. cc)

pub returns-in-Err-Strange-clause-stops : goal.returns-in-Err-Strange-clause-stops
returns-in-Err-Strange-clause-stops c = stops_for c.args.options.now c.args.world.now serve.Strange c.requires.workers (λ limit. cc)

pub returns-in-Err-NoThread-clause-stops : goal.returns-in-Err-NoThread-clause-stops
returns-in-Err-NoThread-clause-stops c = stops_for c.args.options.now c.args.world.now serve.NoThread c.requires.workers (λ limit. cc)
