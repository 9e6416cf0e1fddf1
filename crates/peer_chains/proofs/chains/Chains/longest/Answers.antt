use Rattle.std.proofs.Common.{◌≡◌, ◌∙◌, ap, length, rules, slice_index, ℕ}
use Rattle.peer_chains.specs.Chains.{most_below}
use Rattle.peer_chains.specs.Kept.{seen}
use Rattle.peer_chains.proofs.chains.Chains.longest.Goals as goal

pub returns : goal.returns
unfolding seen
returns c =
    let all : c.loop-number.number-index ≡ length c.args.self.now.numbers = search rules in
    c.loop-number.invariant ∙ ap (λ (n : ℕ). most_below n (λ v. slice_index c.args.self.now.numbers v)) all
