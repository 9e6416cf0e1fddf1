-- What waits at the ports of a network, and what comes in there.
use Rattle.std.specs.Prelude.{◌≡◌, ℕ, List, [], ◌∷◌, ◌++◌, Bool, true, false}
use Rattle.ghs_graph.specs.Graph.{Shape}
use Rattle.peer_network.specs.Network.{Network, network_of, At, port_at}
use Rattle.peer_network.specs.Updates.{put_at}
use Rattle.peer_channels.specs.Queue.{QueueState, taken, requeued}
use Rattle.peer_channels.specs.Channels.{ChannelsState, Outgoing, IsFor, queue_at}

-- the queues of a graph, and what waits in each
pub record AreQueues {M : Type 0} (g : Shape) (waits : ℕ → ℕ → List M) (l : ChannelsState M) : Type 0 where
  pub ports : IsFor g l
  pub queue : (v p : ℕ) → At (network_of g) v p → queue_at l v p ≡ waits v p

-- one message goes out on a port of node v: it waits last at the far end's port
abbrev pub with_sent : {M : Type 0} → Network → ℕ → (ℕ → ℕ → List M) → ℕ × M → ℕ → ℕ → List M
with_sent g v waits s = let to = port_at g v s.0 in put_at waits to.far to.far_port (waits to.far to.far_port ++ s.1 ∷ [])

abbrev pub with_all_sent : {M : Type 0} → Network → ℕ → Outgoing M → (ℕ → ℕ → List M) → ℕ → ℕ → List M
with_all_sent g v [] waits = waits
with_all_sent g v (s ∷ ss) waits = with_all_sent g v ss (with_sent g v waits s)

-- a queue whose first message is taken: at the end if it is deferred, else gone
abbrev pub after_first : {M : Type 0} → Bool → QueueState M → QueueState M
after_first true q = requeued q
after_first false q = taken q
