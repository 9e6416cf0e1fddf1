use Rattle.std.proofs.Common.{◌≡◌, ◌+◌, ◌*◌, ◌++◌, ◌≤◌, ◌^◌, false}
use Rattle.std.specs.List.{flat_map}
use Rattle.ghs_make.specs.Network.{count_of_nodes, links_of_nodes}
use Rattle.ghs_make.specs.Text.{arc_line, head_of}
use Rattle.ghs_report.specs.Written.{IsOut}
use Rattle.ghs_make.proofs.write.write_network.Given as goal

abbrev pub invariant-nodes : goal.invariant-nodes
invariant-nodes g l = record {
  counted : l.number ≡ count_of_nodes l.network.plan l.before;
  sound : g.W.Sink.has_failed l.writer ≡ false;
  out : IsOut (g.W.Sink.held l.fn.writer) (g.W.Sink.held l.writer)
      (head_of l.network ++ flat_map arc_line (links_of_nodes l.network l.before)) l.gone l.text.items;
  small : l.gone ≤ l.before * 2 ^ 64;
}
