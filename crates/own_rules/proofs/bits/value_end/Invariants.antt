use Rattle.std.proofs.Common.{◌≡◌, ◌≤◌, drop, take}
use Rattle.own_rules.specs.Bits.{values_from}
use Rattle.own_rules.proofs.Valued.{in_front}
use Rattle.own_rules.proofs.bits.value_end.Given as goal

abbrev pub invariant-loop-end : goal.invariant-loop-end
invariant-loop-end l = record {
  values : in_front (take l.end l.text) (values_from l.depth (drop l.end l.text)) ≡ values_from 0 l.text;
  depth : l.depth ≤ l.end;
}
