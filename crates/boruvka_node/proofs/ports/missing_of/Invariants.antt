use Rattle.std.proofs.Common.{◌≡◌, ◌≤◌, take, count_by}
use Rattle.boruvka_node.specs.State.{is_missing}
use Rattle.boruvka_node.proofs.ports.missing_of.Given as goal

abbrev pub invariant-loop-place : goal.invariant-loop-place
invariant-loop-place l = record {
  few : l.count ≤ l.place;
  counted : l.count ≡ count_by (is_missing l.level) (take l.place l.ports);
}
