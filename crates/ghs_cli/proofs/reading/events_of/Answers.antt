use Rattle.ghs_cli.proofs.Traces.{few_events}
use Rattle.ghs_cli.proofs.reading.events_of.Goals as goal

pub returns-clause-few : goal.returns-clause-few
returns-clause-few g c = few_events c.args.protocol c.deref.result.now c.in_ok-read_trace_of.field-0.items c.in_ok-read_trace_of.ensures.events
