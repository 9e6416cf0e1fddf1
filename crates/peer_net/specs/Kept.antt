-- What the fields of a net keep.
use Rattle.std.specs.Prelude.{◌≡◌, ℕ, ◌+◌, ◌-◌, ◌≤◌, ◌<◌, List, [], length, slice_index, slice_index_or}
use Rattle.ghs_graph.specs.Graph.{Shape, IsGraph}
use Rattle.ghs_graph.specs.Ports.{ports_of}
use Rattle.peer_network.specs.declared.event.Event.{Event}
use Rattle.peer_network.specs.Network.{network_of}
use Rattle.peer_channels.specs.Channels.{ChannelsState, total_of}
use Rattle.peer_machine.specs.Rules.{Rules}
use Rattle.peer_machine.specs.Net.{Net}
use Rattle.peer_machine.specs.Run.{IsRun, net_after}
use Rattle.peer_machine.specs.Ledger.{in_all}
use Rattle.peer_net.specs.declared.counts.Counts.{Counts}
use Rattle.peer_net.specs.Queues.{AreQueues}

-- a number for each kind
pub record AreCounts (kinds : ℕ) (count : ℕ → ℕ) (list : List ℕ) : Type 0 where
  pub many : length list ≡ kinds
  pub each : (k : ℕ) → k < kinds → slice_index list k ≡ count k

module _ {S M : Type 0} (r : Rules S M) where
  -- stands where a list lookup wants a default
  abbrev pub no_node : S
  no_node = r.opening 0 []

  -- the states of the nodes, of which the first is that of node 1
  pub record AreNodes (g : Shape) (state : ℕ → S) (nodes : List S) : Type 0 where
    pub many : length nodes ≡ g.nodes
    pub each : (v : ℕ) → 1 ≤ v → v ≤ g.nodes → slice_index_or nodes (v - 1) no_node ≡ state v

  -- all nodes of a graph, as they open
  pub record AreOpen (g : Shape) (nodes : List S) : Type 0 where
    pub graph : IsGraph g
    pub states : AreNodes g (λ v. r.opening v (ports_of g.keys v)) nodes

  -- nodes, queues and counts are those of the net
  pub record Shows (g : Shape) (w : Net S M) (nodes : List S) (l : ChannelsState M) (c : Counts) : Type 0 where
    pub states : AreNodes g w.node nodes
    pub queues : AreQueues g w.queue l
    pub sent : AreCounts r.kinds w.sent c.sent.items
    pub consumed : AreCounts r.kinds w.consumed c.consumed.items
    pub queued : total_of l + in_all r w.consumed ≡ in_all r w.sent
    pub deferred : c.deferred ≡ w.deferred

  -- the fields are those of the net after a run of the graph
  pub record IsKept (g : Shape) (es : List Event) (nodes : List S) (l : ChannelsState M) (c : Counts) : Type 0 where
    pub graph : IsGraph g
    pub run : IsRun r (network_of g) es
    pub shows : Shows g (net_after r g es) nodes l c
