use Rattle.std.proofs.Common.{◌≡◌, ◌+◌, ◌*◌, length, get_or}
use Rattle.ghs_graph.specs.Layout.{AreRightBelow}
use Rattle.ghs_graph.proofs.layout.fill.Given as goal

abbrev pub invariant-loop-pass : goal.invariant-loop-pass
invariant-loop-pass l = record {
  room : length l.ports.items ≡ get_or l.starts (l.nodes + 1) 0;
  right : AreRightBelow (l.pass * 131072) l.keys l.starts l.ports.items;
}
