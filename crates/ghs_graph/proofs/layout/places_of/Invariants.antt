use Rattle.std.proofs.Common.{take}
use Rattle.ghs_graph.specs.Layout.{AreDegrees, ArePlaced}
use Rattle.ghs_graph.proofs.layout.places_of.Given as goal

abbrev pub invariant-loop-key : goal.invariant-loop-key
invariant-loop-key l = record {
  counts : AreDegrees l.nodes (take l.key-index l.keys) l.counts.items;
  places : ArePlaced l.keys l.key-index l.places.items;
}
