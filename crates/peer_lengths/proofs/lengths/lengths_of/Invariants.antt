use Rattle.std.proofs.Common.{◌≡◌, take}
use Rattle.peer_lengths.specs.Lengths.{IsMeterOf}
use Rattle.peer_lengths.proofs.lengths.lengths_of.Given as goal

abbrev pub invariant-loop-event : goal.invariant-loop-event
invariant-loop-event g l = record {
  graph : l.net.graph ≡ l.graph;
  trace : l.net.trace ≡ take l.event-index l.events;
  meter : IsMeterOf g.P.Protocol.rules g.P.Measured.is_of l.net.graph l.net.trace l.meter;
}
