use Rattle.std.proofs.Common.{◌≡◌, ◌/◌, ◌≤◌}
use Rattle.ghs_flags.specs.First.{NonePasses}
use Rattle.ghs_flags.specs.Row.{flag_at}
use Rattle.ghs_flags.proofs.row.first_bit_between.Given as goal

abbrev pub invariant-loop-at : goal.invariant-loop-at
invariant-loop-at l = record {
  here : l.from / 64 ≡ l.at;
  order : l.start ≤ l.from;
  none : NonePasses (flag_at l.words) l.start l.from;
}
