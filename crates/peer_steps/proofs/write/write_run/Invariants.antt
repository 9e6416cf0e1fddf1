use Rattle.std.proofs.Common.{◌≡◌, ◌*◌, ◌≤◌, ◌^◌, false, take}
use Rattle.ghs_report.specs.Written.{IsOut}
use Rattle.peer_steps.specs.Lines.{lines}
use Rattle.peer_steps.proofs.write.write_run.Given as goal

abbrev pub invariant-loop-event : goal.invariant-loop-event
invariant-loop-event g l = record {
  graph : l.net.graph ≡ l.fn.graph;
  trace : l.net.trace ≡ take l.event-index l.events;
  sound : g.W.Sink.has_failed l.writer ≡ false;
  out :
      IsOut (g.W.Sink.held l.fn.writer) (g.W.Sink.held l.writer) (lines g.P.Protocol.rules g.P.Spoken.words l.form l.fn.graph l.choice
      (take l.event-index l.events))
      l.gone l.text.items;
  small : l.gone ≤ l.event-index * 2 ^ 64;
}
