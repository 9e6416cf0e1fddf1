use Rattle.std.proofs.Common.{◌≡◌, List, ℕ, subst}
use Rattle.std.specs.Prelude.{slice_index}
use Rattle.ghs_commands.proofs.Numbers.{number_refused, number_taken}
use Rattle.ghs_commands.proofs.values.number_in.Goals as goal

pub returns-in_default-clause-number : goal.returns-in_default-clause-number
returns-in_default-clause-number c = number_refused c.args.low c.args.high c.args.value.now c.ranges.high.fits c.in_default.ensures.value.0

pub returns-clause-number : goal.returns-clause-number
returns-clause-number c =
    number_taken c.args.low c.args.high c.args.value.now c.in-Ok.number c.in-Ok.ensures.value.0.0.0 c.in-Ok.ensures.value.0.1
    (subst (λ (t : List ℕ). slice_index t 0 ≡ 43 → ⊥) c.as_bytes.ensures.value c.if-as_bytes-eq43.false) c.if-number-low.false c.if-high-number.false
