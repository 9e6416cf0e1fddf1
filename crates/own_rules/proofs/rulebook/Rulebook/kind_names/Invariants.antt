use Rattle.std.proofs.Common.{◌≡◌, take}
use Rattle.own_rules.specs.Texts.{kinds_of, names_of}
use Rattle.own_rules.proofs.rulebook.Rulebook.kind_names.Given as goal

abbrev pub invariant-loop-kind : goal.invariant-loop-kind
invariant-loop-kind l = l.names.items ≡ take l.kind (names_of (kinds_of l.self))
