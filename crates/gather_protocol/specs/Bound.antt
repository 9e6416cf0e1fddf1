-- How many messages a run of Gather may send.
use Rattle.std.specs.Prelude.{ℕ, ◌+◌, ◌-◌, ◌*◌, Bool, length, if◌then◌else◌}
use Rattle.ghs_graph.specs.Graph.{Shape}
use Rattle.peer_network.specs.Network.{Network}
use Rattle.peer_network.specs.Sums.{sum_over_nodes}

-- how many nodes may wake by themselves
abbrev pub wakers_in : Network → (ℕ → Bool) → ℕ
wakers_in g may = sum_over_nodes g (λ v. if may v then 1 else 0)

-- where so many nodes wake by themselves: each wave costs a message a direction of a link, and then the tree is told to each node but a leader
abbrev pub bound_by : Shape → ℕ → ℕ
bound_by g wakers = 2 * (length g.keys * wakers) + (g.nodes - 1)

-- whoever wakes
abbrev pub bound_of : Shape → ℕ
bound_of g = bound_by g g.nodes
