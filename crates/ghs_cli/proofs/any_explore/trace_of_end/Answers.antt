use Rattle.std.proofs.Common.{◌≤◌, length, rules, ap, ◌∙◌}
use Rattle.peer_trace.specs.Text.{stored_text}
use Rattle.ghs_cli.proofs.AnyExplorations.{run_printed}
use Rattle.ghs_cli.proofs.any_explore.trace_of_end.Goals as goal

pub returns-clause-text : goal.returns-clause-text
returns-clause-text g c =
    let few : c.args.options.now.end ≤ length c.args.explored.now.rows = search rules in
    run_printed g.P.Protocol.rules c.args.protocol c.args.options.now c.args.graph.now c.args.explored.now c.in_ok-events.events.items
    c.in_ok-write_trace_of.field-0.items
    c.requires.graph c.requires.wake c.requires.limits.first few c.rows-ends.ensures.ends c.in_ok-events.ensures.ends
    (c.in_ok-write_trace_of.ensures ∙ ap (stored_text c.args.protocol) c.deref.ensures.value)
