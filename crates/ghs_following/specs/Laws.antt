-- What holds of the chains of every run.
use Rattle.std.specs.Prelude.{ℕ, ◌≤◌, List, length}
use Rattle.ghs_graph.specs.Bound.{IsBound}
use Rattle.ghs_graph.specs.Graph.{Shape, IsGraph}
use Rattle.peer_network.specs.declared.event.Event.{Event}
use Rattle.ghs_protocol.specs.Ledger.{in_all}
use Rattle.peer_network.specs.Network.{Network, network_of}
use Rattle.ghs_protocol.specs.Net.{Net}
use Rattle.ghs_protocol.specs.Run.{IsAfter}
use Rattle.ghs_following.specs.Chains.{longest_chain}

-- the longest chain is no longer than messages were sent
abbrev pub ChainsAreSent : Type 0
ChainsAreSent = (g : Network) (es : List Event) (w : Net) → IsAfter g es w → longest_chain g es ≤ in_all w.sent

-- nor than the bound
abbrev pub ChainsAreWithinBound : Type 0
ChainsAreWithinBound =
    (g : Shape) (b : ℕ) (es : List Event) (w : Net) → IsGraph g → IsBound g.nodes (length g.keys) b → IsAfter (network_of g) es w →
    longest_chain (network_of g) es ≤ b
