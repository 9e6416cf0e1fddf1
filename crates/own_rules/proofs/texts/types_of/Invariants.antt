use Rattle.std.proofs.Common.{◌≡◌, true, length}
use Rattle.own_book.specs.Answer.{are_kinds, kinds_in}
use Rattle.own_rules.specs.Texts.{types_of}
use Rattle.own_rules.proofs.texts.types_of.Given as goal

abbrev pub invariant-kinds : goal.invariant-kinds
invariant-kinds l = record {
  readable : are_kinds l.rest ≡ true;
  same : types_of l.kinds l.name ≡ types_of l.rest l.name;
}

abbrev pub decreases-kinds : goal.decreases-kinds
decreases-kinds l = length (kinds_in l.rest)
