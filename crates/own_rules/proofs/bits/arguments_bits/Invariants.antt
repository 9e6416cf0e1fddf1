use Rattle.std.proofs.Common.{◌≡◌, ◌+◌, ◌<◌, ◌^◌, length, min, true}
use Rattle.own_book.specs.Answer.{are_types, types_in}
use Rattle.own_rules.specs.Bits.{arguments_bits, values_from}
use Rattle.own_rules.proofs.bits.arguments_bits.Given as goal

abbrev pub invariant-types : goal.invariant-types
invariant-types l = record {
  readable : are_types l.rest ≡ true;
  total : min 4294967295 (l.total + arguments_bits l.widths l.count (types_in l.rest) (values_from 0 l.left))
      ≡ min 4294967295 (arguments_bits l.widths l.count (types_in l.types) (values_from 0 l.values));
  small : l.total < 2 ^ 32;
}

abbrev pub decreases-types : goal.decreases-types
decreases-types l = length (types_in l.rest)
