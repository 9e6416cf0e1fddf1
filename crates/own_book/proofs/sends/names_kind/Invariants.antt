use Rattle.std.proofs.Common.{◌≡◌, true, length}
use Rattle.std.specs.List.{list_any}
use Rattle.std.specs.Str.{bytes_eq}
use Rattle.own_book.specs.Answer.{are_kinds, kinds_in}
use Rattle.own_book.specs.Sends.{names_kind}
use Rattle.own_book.proofs.sends.names_kind.Given as goal

abbrev pub invariant-kinds : goal.invariant-kinds
invariant-kinds l = record {
  readable : are_kinds l.rest ≡ true;
  named : names_kind l.kinds l.message ≡ names_kind l.rest l.message;
}

abbrev pub decreases-kinds : goal.decreases-kinds
decreases-kinds l = length (kinds_in l.rest)
