use Rattle.std.proofs.Common.{◌≡◌, None, rules}
use Rattle.peer_trace.specs.Head.{mark_in}
use Rattle.peer_trace.proofs.Readings.{own_run}
use Rattle.peer_trace.proofs.trace.read_trace_of.Goals as goal

pub returns-clause-events : goal.returns-clause-events
returns-clause-events c =
    let markless : mark_in c.args.text.now ≡ None = search rules in
    own_run c.args.protocol c.args.text.now c.in_ok-read_named.field-0.items c.protocol_of-named.result c.protocol_of-named.ensures markless
    c.in_default.ensures.own c.in_ok-read_named.ensures.events
