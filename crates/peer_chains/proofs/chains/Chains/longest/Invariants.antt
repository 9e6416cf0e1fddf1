use Rattle.std.proofs.Common.{◌≡◌, slice_index}
use Rattle.peer_chains.specs.Chains.{most_below}
use Rattle.peer_chains.proofs.chains.Chains.longest.Given as goal

abbrev pub invariant-loop-number : goal.invariant-loop-number
invariant-loop-number l = l.longest ≡ most_below l.number-index (λ v. slice_index l.self.numbers v)
