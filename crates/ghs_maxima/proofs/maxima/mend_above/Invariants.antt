use Rattle.std.proofs.Common.{◌≡◌, ◌*◌, ◌/◌, ◌<◌, drop}
use Rattle.ghs_maxima.specs.Tree.{AreTopsBut}
use Rattle.ghs_maxima.proofs.maxima.mend_above.Given as goal

abbrev pub invariant-loop-place : goal.invariant-loop-place
invariant-loop-place l = record {
  within : l.place < 2 * l.len;
  tops : AreTopsBut l.len (l.place / 2) l.tree;
  row : drop l.len l.tree ≡ drop l.len l.initial.tree;
}

abbrev pub decreases-loop-place : goal.decreases-loop-place
decreases-loop-place l = l.place
