use Rattle.std.proofs.Common.{◌≡◌}
use Rattle.ghs_examples.proofs.queues.put_all.Given as goal

abbrev pub invariant-loop : goal.invariant-loop
invariant-loop g l = (l.pass.name ≡ l.initial.pass.name) × (l.pass.shares ≡ l.initial.pass.shares)

abbrev pub invariant-loop-number : goal.invariant-loop-number
invariant-loop-number g l = (l.pass.name ≡ l.initial.pass.name) × (l.pass.shares ≡ l.initial.pass.shares)
