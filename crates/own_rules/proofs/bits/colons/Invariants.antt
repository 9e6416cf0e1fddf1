use Rattle.std.proofs.Common.{◌≡◌, ◌==◌, ◌≤◌, count_by, take}
use Rattle.own_rules.proofs.bits.colons.Given as goal

abbrev pub invariant-loop-byte : goal.invariant-loop-byte
invariant-loop-byte l = record {
  count : l.count ≡ count_by (λ b. b == 58) (take l.byte-index l.text);
  few : l.count ≤ l.byte-index;
}
