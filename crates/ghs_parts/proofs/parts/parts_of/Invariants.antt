use Rattle.std.proofs.Common.{◌≡◌, take}
use Rattle.ghs_parts.specs.Tally.{IsTally}
use Rattle.ghs_parts.proofs.parts.parts_of.Given as goal

abbrev pub invariant-loop-event : goal.invariant-loop-event
invariant-loop-event l = record {
  graph : l.net.graph ≡ l.graph;
  trace : l.net.trace ≡ take l.event-index l.events;
  tally : IsTally l.by l.graph (take l.event-index l.events) l.tally.parts.items l.tally.level;
}
