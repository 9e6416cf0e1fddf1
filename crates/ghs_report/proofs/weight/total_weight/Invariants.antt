use Rattle.std.proofs.Common.{◌≡◌, ◌≤◌, ◌*◌, take}
use Rattle.ghs_graph.specs.Links.{total_weight}
use Rattle.ghs_report.proofs.weight.total_weight.Given as goal

abbrev pub invariant-loop-link : goal.invariant-loop-link
invariant-loop-link l = record {
  total : l.total ≡ total_weight (take l.link-index l.links);
  small : l.total ≤ l.link-index * 4294967295;
}
