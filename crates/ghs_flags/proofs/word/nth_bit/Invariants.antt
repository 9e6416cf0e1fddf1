use Rattle.std.proofs.Common.{◌≡◌, ℕ, ◌+◌, ◌<◌}
use Rattle.std.specs.Prelude.{count_ones}
use Rattle.ghs_flags.specs.Word.{IsNthBit}
use Rattle.ghs_flags.proofs.word.nth_bit.Given as goal

-- the set bits that are left are the word's last
abbrev pub invariant-loop : goal.invariant-loop
invariant-loop l = record {
  some : l.k < count_ones l.word + l.counter;
  last : (r i : ℕ) → r + l.counter ≡ l.k → IsNthBit l.word r i → IsNthBit l.fn.word l.k i;
}
