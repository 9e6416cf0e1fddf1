use Rattle.std.proofs.Common.{◌≡◌, ◌-◌, ◌*◌, ◌<◌, slice_index}
use Rattle.ghs_maxima.proofs.maxima.greatest_leaf.Given as goal

abbrev pub invariant-loop-place : goal.invariant-loop-place
invariant-loop-place l = record {
  some : 0 < l.place;
  within : l.place < 2 * l.len;
  same : slice_index l.tree l.place ≡ slice_index l.tree 1;
}

abbrev pub decreases-loop-place : goal.decreases-loop-place
decreases-loop-place l = l.len - l.place
