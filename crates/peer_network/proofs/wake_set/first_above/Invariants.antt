use Rattle.std.proofs.Common.{◌≡◌, None, nat_lt, take}
use Rattle.std.specs.List.{find}
use Rattle.peer_network.proofs.wake_set.first_above.Given as goal

abbrev pub invariant-loop-number : goal.invariant-loop-number
invariant-loop-number l = find (λ n. nat_lt l.most n) (take l.number-index l.numbers) ≡ None
