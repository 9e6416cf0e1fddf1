use Rattle.std.proofs.Common.{nat_lt, sym}
use Rattle.std.proofs.lemmas.Bool.{lt-ltb, le-ltb}
use Rattle.peer_network.proofs.Finding.{found_at, none_at}
use Rattle.peer_network.proofs.wake_set.first_above.Goals as goal

pub returns-then-most-number : goal.returns-then-most-number
returns-then-most-number c =
    sym (found_at (λ n. nat_lt c.args.most n) c.args.numbers.now c.loop-number.number-index 0 c.loop-number-test.true c.loop-number.invariant
    (lt-ltb c.args.most _ c.if-most-number.true))

pub loop-number-preserved : goal.loop-number-preserved
loop-number-preserved c =
    none_at (λ n. nat_lt c.args.most n) c.args.numbers.now c.loop-number.number-index 0 c.loop-number-test.true c.loop-number.invariant
    (le-ltb c.args.most _ c.if-most-number.false)
