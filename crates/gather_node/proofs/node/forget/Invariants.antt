use Rattle.std.proofs.Common.{◌≡◌, length, take}
use Rattle.gather_node.specs.State.{nothing_brought}
use Rattle.gather_node.proofs.node.forget.Given as goal

abbrev pub invariant-loop-place : goal.invariant-loop-place
invariant-loop-place l = record {
  long : length l.brought.items ≡ length l.initial.brought.items;
  done : take l.place l.brought.items ≡ nothing_brought l.place;
}
