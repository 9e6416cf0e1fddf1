use Rattle.std.proofs.Common.{◌≡◌, ℕ, ◌<◌, ◌≤◌, false}
use Rattle.boruvka_node.specs.Counters.{is_basic_at}
use Rattle.boruvka_node.proofs.ports.first_basic.Given as goal

abbrev pub invariant-loop-port : goal.invariant-loop-port
invariant-loop-port l = (k : ℕ) → l.fn.start ≤ k → k < l.port → is_basic_at l.ports k ≡ false
