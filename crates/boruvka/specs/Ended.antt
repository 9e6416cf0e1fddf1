-- The end of a run, and the links that it has found.
use Rattle.std.specs.Prelude.{ℕ, Bool, List}
use Rattle.ghs_graph.specs.declared.key.Key.{Key}
use Rattle.ghs_graph.specs.Graph.{Shape}
use Rattle.ghs_graph.specs.Links.{Joined, links, IsTree}
use Rattle.peer_network.specs.Network.{network_of, InNetwork}
use Rattle.peer_machine.specs.Net.{Net}
use Rattle.boruvka_node.specs.declared.message.Message.{Message}
use Rattle.boruvka_node.specs.State.{State, mark_at}
use Rattle.boruvka_node.specs.Words.{is_branch}
use Rattle.boruvka_protocol.specs.Marks.{HasHalted}

-- the run has ended: with each node one is joined that has halted
abbrev pub HasEnded : Shape → Net State Message → Type 0
HasEnded g w = (v : ℕ) → InNetwork (network_of g) v → (u : ℕ) × InNetwork (network_of g) u × Joined (links g.keys) v u × HasHalted w u

-- the node has marked the port Branch
abbrev pub marks_branch : State → ℕ → Bool
marks_branch n p = is_branch (mark_at n p)

-- the links are the minimum spanning forest
abbrev pub IsForest : Shape → List Key → Type 0
IsForest g ks = IsTree g.keys ks
