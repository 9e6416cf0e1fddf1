use Rattle.std.proofs.Common.{◌≡◌, ◌++◌, drop, map}
use Rattle.own_rules.specs.Looks.{looks_from, looks_in}
use Rattle.own_rules.proofs.looks.looks_of.Given as goal

abbrev pub invariant-loop-kind : goal.invariant-loop-kind
invariant-loop-kind l =
    looks_in l.kinds ≡ map (λ v. v.items) l.list.items ++ looks_from l.kinds l.letters.items (drop l.kind l.names)
