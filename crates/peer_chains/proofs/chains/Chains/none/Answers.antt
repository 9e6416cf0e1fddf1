use Rattle.std.proofs.Common.{◌+◌, ◌≡◌, slice_index, ℕ}
use Rattle.peer_chains.proofs.Placing.{none_seen, zeros}
use Rattle.peer_chains.proofs.chains.Chains.none.Goals as goal

pub returns-clause-none : goal.returns-clause-none
returns-clause-none c =
    let zero : (v : ℕ) → slice_index c.in_ok-numbers.numbers.items v ≡ 0 =
    λ v. zeros (c.nodes-nodes.result + 1) v c.in_ok-numbers.numbers.items (c.in_ok-numbers.ensures.items_if_clones_equal (λ y h. h)) in
    none_seen (record { numbers = c.in_ok-numbers.numbers.items; rows = c.in_ok-rows.rows }) zero c.in_ok-rows.ensures.empty
