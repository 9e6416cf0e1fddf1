use Rattle.std.proofs.Common.{◌≡◌, ◌+◌, ◌++◌, take}
use Rattle.std.specs.List.{flat_map}
use Rattle.ghs_make.specs.Network.{links_at}
use Rattle.ghs_make.specs.Text.{arc_line}
use Rattle.ghs_make.proofs.text.put_links.Given as goal

abbrev pub invariant-loop-end : goal.invariant-loop-end
invariant-loop-end l = record {
  counted : l.next ≡ l.number + l.end-index;
  lines : l.text.items ≡ l.fn.text.items ++ flat_map arc_line (links_at l.network l.number l.node (take l.end-index l.ends));
}
