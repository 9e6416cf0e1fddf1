use Rattle.std.proofs.Common.{◌≡◌, true, fold, length, map}
use Rattle.own_book.specs.Answer.{are_kinds, kinds_in}
use Rattle.own_rules.specs.Texts.{Text, names_of, noted}
use Rattle.own_rules.proofs.texts.names_of.Given as goal

abbrev pub invariant-kinds : goal.invariant-kinds
invariant-kinds l = record {
  readable : are_kinds l.rest ≡ true;
  all : names_of l.kinds ≡ fold noted l.names (map (λ (k : Text × Text). k.0) (kinds_in l.rest));
}

abbrev pub decreases-kinds : goal.decreases-kinds
decreases-kinds l = length (kinds_in l.rest)
