use Rattle.std.proofs.Common.{IfSome, List, subst, sym}
use Rattle.peer_network.specs.declared.event.Event.{Event}
use Rattle.ghs_cli.specs.Serving.{IsTraceText}
use Rattle.ghs_cli.proofs.Stepped.{serves_told, unwritten_steps}
use Rattle.ghs_cli.proofs.stepping.write_steps_of.Goals as goal

pub returns-clause-serves : goal.returns-clause-serves
returns-clause-serves g c =
    let trace =
    subst (λ (es : List Event). IfSome (g.T.Source.left c.args.trace.now) (λ s. IsTraceText c.args.protocol s es))
    (sym c.deref.ensures.value) c.in_ok-events.ensures.events in
    serves_told c.args.protocol c.args.options.now (g.T.Source.left c.args.trace.now) (g.R.Source.left c.args.graph.now) c.in_ok-graph.graph
    c.deref.result.now _ _ c.told_by.result trace c.in_ok-graph.ensures.text c.told_by.ensures.told

pub returns-clause-unwritten : goal.returns-clause-unwritten
returns-clause-unwritten g c = unwritten_steps c.args.protocol c.args.options.now c.told_by.result _ _ c.told_by.ensures.unwritten
