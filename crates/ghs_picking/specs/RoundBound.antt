-- How many rounds a run may have that has ended.
use Rattle.std.specs.Prelude.{◌≡◌, ℕ, ◌+◌, ◌-◌, ◌*◌, length}
use Rattle.ghs_graph.specs.Bound.{IsFloorLog2}
use Rattle.ghs_graph.specs.Graph.{Shape}
use Rattle.ghs_graph.specs.Ports.{ports_of}
use Rattle.peer_network.specs.declared.wake_set.WakeSet.{WakeSet}
use Rattle.peer_network.specs.declared.wake_set.WakeSet.TheVariants.{All, First, Listed}
use Rattle.peer_chains.specs.Chains.{most_below}

-- how many ports the node has that has most
abbrev pub most_ports : Shape → ℕ
most_ports g = most_below g.nodes (λ i. length (ports_of g.keys (i + 1)))

-- where all nodes wake, three for each node and level, and two for each level and each port but one of the node that has most; where some of each
-- component do, two for each link, and five for each node and level, less two for each node
abbrev pub rounds_by : WakeSet → Shape → ℕ → ℕ
rounds_by All g levels = 3 * (g.nodes * levels) + 2 * ((most_ports g - 1) * levels)
rounds_by First g levels = 2 * length g.keys + 5 * (g.nodes * levels) - 2 * g.nodes
rounds_by (Listed wakers) g levels = 2 * length g.keys + 5 * (g.nodes * levels) - 2 * g.nodes

-- levels are the floor of log2 of the nodes
abbrev pub IsRoundBound : WakeSet → Shape → ℕ → Type 0
IsRoundBound wake g bound = (levels : ℕ) × IsFloorLog2 g.nodes levels × (bound ≡ rounds_by wake g levels)
