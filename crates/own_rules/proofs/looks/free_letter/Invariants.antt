use Rattle.std.proofs.Common.{◌≡◌, length}
use Rattle.std.specs.Prelude.{find}
use Rattle.own_rules.specs.Looks.{is_free}
use Rattle.own_rules.proofs.looks.free_letter.Given as goal

abbrev pub invariant-loop-letter : goal.invariant-loop-letter
invariant-loop-letter l = find (is_free l.used) l.name ≡ find (is_free l.used) l.rest

abbrev pub decreases-loop-letter : goal.decreases-loop-letter
decreases-loop-letter l = length l.rest
