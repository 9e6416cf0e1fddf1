use Rattle.std.proofs.Common.{◌≡◌, replicate}
use Rattle.own_judge.specs.declared.look.Own.TheVariants as own
use Rattle.own_judge.proofs.judge.unopened.Given as goal

abbrev pub invariant-loop-node : goal.invariant-loop-node
invariant-loop-node l = l.owns.items ≡ replicate l.node own.Unopened
