use Rattle.std.proofs.Common.{◌≡◌, ◌+◌, length}
use Rattle.ghs_report.specs.Fragments.{AreMerged}
use Rattle.ghs_report.proofs.merging.merged.Given as goal

abbrev pub invariant-loop-key : goal.invariant-loop-key
invariant-loop-key l = record {
  count : length l.fragments.parents.items ≡ l.graph.nodes + 1;
  merged : AreMerged l.graph.keys l.key-index l.fragments.parents.items l.fragments.levels.items l.fragments.cores.items;
}
