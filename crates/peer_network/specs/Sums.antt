-- Sums over the nodes and the ports of a network.
use Rattle.std.specs.Prelude.{ℕ, zero, suc, ◌+◌, length}
use Rattle.peer_network.specs.Network.{Network}

-- f 0 + .. + f (n - 1)
abbrev pub sum_below : ℕ → (ℕ → ℕ) → ℕ
sum_below zero f = 0
sum_below (suc n) f = sum_below n f + f n

-- a number for each node, added up
abbrev pub sum_over_nodes : Network → (ℕ → ℕ) → ℕ
sum_over_nodes g f = sum_below g.count (λ i. f (suc i))

-- a number for each port of each node, added up
abbrev pub sum_over_ports : Network → (ℕ → ℕ → ℕ) → ℕ
sum_over_ports g f = sum_below g.count (λ i. sum_below (length (g.ports (suc i))) (f (suc i)))
