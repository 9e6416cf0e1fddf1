use Rattle.std.proofs.Common.{◌≡◌, ◌++◌, take}
use Rattle.peer_steps.specs.Lines.{all_lines}
use Rattle.peer_steps.proofs.write.put_lines.Given as goal

abbrev pub invariant-loop-event : goal.invariant-loop-event
invariant-loop-event g l = record {
  graph : l.net.graph ≡ l.fn.graph;
  trace : l.net.trace ≡ take l.event-index l.events;
  text : l.text.items ≡ l.fn.text.items ++ all_lines g.P.Protocol.rules g.P.Spoken.words l.fn.form l.fn.graph (take l.event-index l.events);
}
