-- What the fields of a net keep.
use Rattle.std.specs.Prelude.{◌≡◌, ℕ, ◌+◌, ◌-◌, ◌*◌, ◌≤◌, ◌<◌, List, [], length, slice_index, slice_index_or}
use Rattle.ghs_graph.specs.Graph.{Shape, IsGraph}
use Rattle.ghs_graph.specs.Ports.{ports_of}
use Rattle.ghs_node.specs.NodeState.{NodeState, sleeper}
use Rattle.ghs_node.specs.declared.message.Message.{Message}
use Rattle.peer_channels.specs.Channels.{ChannelsState, IsFor, queue_at, total_of}
use Rattle.peer_network.specs.declared.event.Event.{Event}
use Rattle.peer_network.specs.Network.{Network, network_of, At}
use Rattle.ghs_protocol.specs.Net.{Net}
use Rattle.ghs_protocol.specs.Run.{IsRun, net_after}
use Rattle.ghs_protocol.specs.Ledger.{in_all}
use Rattle.ghs_core.specs.declared.counts.Counts.{Counts}
use Rattle.ghs_core.specs.declared.halts.Halts.{Halts}
use Rattle.ghs_core.specs.Halts.{AreHalts}
use Rattle.ghs_core.specs.NetState.{halted_in}

-- stands where a list lookup wants a default
abbrev pub no_node : NodeState
no_node = sleeper 0 []

-- nodes, queues and counts are those of the net
pub record Shows (g : Network) (w : Net) (nodes : List NodeState) (channels : ChannelsState Message) (counts : Counts) : Type 0 where
  pub count : length nodes ≡ g.count
  pub node : (v : ℕ) → 1 ≤ v → v ≤ g.count → slice_index_or nodes (v - 1) no_node ≡ w.node v
  pub queue : (v p : ℕ) → At g v p → queue_at channels v p ≡ w.queue v p
  pub sent : (k : ℕ) → k < 7 → slice_index counts.sent k ≡ w.sent k
  pub consumed : (k : ℕ) → k < 7 → slice_index counts.consumed k ≡ w.consumed k
  pub requeued : counts.requeued ≡ w.requeued

-- The counts after n events: none is too large, since an event sends at most 8388610 messages, and together they say how many wait.
pub record CountsFit (n : ℕ) (channels : ChannelsState Message) (counts : Counts) : Type 0 where
  pub sent : in_all (λ k. slice_index counts.sent k) ≤ n * 8388610
  pub consumed : in_all (λ k. slice_index counts.consumed k) ≤ n
  pub requeued : counts.requeued ≤ n
  pub waiting : total_of channels + in_all (λ k. slice_index counts.consumed k) ≡ in_all (λ k. slice_index counts.sent k)

-- the fields are those of the net after a run of the graph
pub record IsKept (g : Shape) (es : List Event) (nodes : List NodeState) (channels : ChannelsState Message) (counts : Counts)
    (halts : Halts) : Type 0 where
  pub graph : IsGraph g
  pub run : IsRun (network_of g) es
  pub queues : IsFor g channels
  pub shows : Shows (network_of g) (net_after g es) nodes channels counts
  pub fit : CountsFit (length es) channels counts
  pub halted : AreHalts g (halted_in (net_after g es)) halts

-- all nodes of a graph, as they are at the opening
pub record AreAsleep (g : Shape) (nodes : List NodeState) : Type 0 where
  pub graph : IsGraph g
  pub count : length nodes ≡ g.nodes
  pub each : (i : ℕ) → i < g.nodes → slice_index_or nodes i no_node ≡ sleeper (i + 1) (ports_of g.keys (i + 1))
