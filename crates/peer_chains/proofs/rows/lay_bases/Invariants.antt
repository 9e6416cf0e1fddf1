use Rattle.std.proofs.Common.{◌≡◌, ◌+◌, slice_index}
use Rattle.peer_chains.specs.Rows.{AreBases}
use Rattle.peer_chains.proofs.Flat.{ports_below}
use Rattle.peer_chains.proofs.rows.lay_bases.Given as goal

abbrev pub invariant-loop-i : goal.invariant-loop-i
invariant-loop-i l = record {
  bases : AreBases l.graph l.i l.bases.items;
  last : l.end ≡ slice_index l.bases.items (l.i + 1);
  sum : l.end ≡ ports_below l.graph l.i;
}
