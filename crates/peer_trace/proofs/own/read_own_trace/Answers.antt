use Rattle.std.proofs.Common.{◌≡◌, ◌∙◌, None, ap, rules, sym}
use Rattle.peer_trace.specs.Head.{protocol_in}
use Rattle.peer_trace.specs.Mark.{marked_by}
use Rattle.peer_trace.proofs.Readings.{trace_named}
use Rattle.peer_trace.proofs.own.read_own_trace.Goals as goal

pub unreachable-requires : goal.unreachable-requires
unreachable-requires c =
    let none : protocol_in c.args.text.now ≡ None = search rules in
    trace_named c.args.text.now c.in_ok-events.events.items c.in_ok-events.ensures.events
    (ap marked_by (sym c.head_line.ensures) ∙ c.in-None.ensures.none) none
