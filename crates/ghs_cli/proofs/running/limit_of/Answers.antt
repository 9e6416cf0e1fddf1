use Rattle.std.proofs.Common.{◌∙◌, ap, length}
use Rattle.ghs_core.specs.NetState.{NetState}
use Rattle.ghs_cli.proofs.Runs.{stopped_threads, stops_at_limit, stops_for}
use Rattle.ghs_answers.specs.declared.fault.ServeFault.TheVariants as serve
use Rattle.ghs_cli.proofs.running.limit_of.Goals as goal

pub returns : goal.returns
returns c =
    stops_at_limit c.args.options.now c.args.world.now
    (stopped_threads c.args.options.now c.args.world.now c.turns-turns.result c.events-events.result
    c.requires.workers c.requires.wake c.requires.turns c.net.ensures.run c.turns-turns.ensures.turns c.turns-turns.ensures.fits
    (c.events-events.ensures ∙ ap (λ (n : NetState). length n.trace) c.net.ensures.net)
    c.if-events-turns.false c.requires.goes_on)

pub returns-then-events-turns : goal.returns-then-events-turns
returns-then-events-turns c = stops_for c.args.options.now c.args.world.now serve.Strange c.requires.workers (λ limit. cc)
