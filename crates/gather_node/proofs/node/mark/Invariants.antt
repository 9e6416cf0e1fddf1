use Rattle.std.proofs.Common.{◌≡◌, length, take}
use Rattle.gather_node.specs.State.{marks}
use Rattle.gather_node.proofs.node.mark.Given as goal

abbrev pub invariant-loop-place : goal.invariant-loop-place
invariant-loop-place l = record {
  long : length l.branches.items ≡ length l.keys;
  done : take l.place l.branches.items ≡ marks l.tree (take l.place l.keys);
}
