use Rattle.std.proofs.Common.{◌≡◌, ◌<◌, ℕ, false}
use Rattle.boruvka_node.specs.Draft.{drafted}
use Rattle.boruvka_node.specs.Counters.{is_basic_at}
use Rattle.boruvka_node.proofs.draft.Draft.first_basic.Given as goal

abbrev pub invariant-loop-port : goal.invariant-loop-port
invariant-loop-port l = (k : ℕ) → k < l.port → is_basic_at (drafted l.node l.self).ports k ≡ false
