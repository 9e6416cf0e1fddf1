-- The queues of a network: one list of messages, of any type M, for each port of each node.
use Rattle.std.specs.Prelude.{◌≡◌, ℕ, zero, suc, ◌+◌, ◌<◌, ◌≤◌, ◌==◌, ◌↔◌, List, [], length, slice_index_or}
use Rattle.std.specs.List.{All, sum_by, count_by}
use Rattle.ghs_graph.specs.declared.port.Port.{Port}
use Rattle.ghs_graph.specs.Graph.{Shape, IsGraph}
use Rattle.ghs_graph.specs.Ports.{ports_of, no_port}
use Rattle.peer_channels.specs.Queue.{QueueState, no_queue}

-- of each node, by its number, and each of its ports: the queue there, and where the link leads, as node and port
pub record ChannelsState (M : Type 0) : Type 0 where
  pub queues : List (List (QueueState M))
  pub destinations : List (List (ℕ × ℕ))

abbrev pub queues_of : {M : Type 0} → ChannelsState M → ℕ → List (QueueState M)
queues_of l v = slice_index_or l.queues v []

-- node v has a queue at port p
pub record HasQueue {M : Type 0} (l : ChannelsState M) (v p : ℕ) : Type 0 where
  pub node : v < length l.queues
  pub port : p < length (queues_of l v)

-- how many queues the nodes of lower numbers have: so many stand before those of node v
abbrev pub first_queue : {M : Type 0} → ChannelsState M → ℕ → ℕ
first_queue l zero = 0
first_queue l (suc v) = first_queue l v + length (queues_of l v)

-- what waits at port p of node v, and the room beside it
abbrev pub state_at : {M : Type 0} → ChannelsState M → ℕ → ℕ → QueueState M
state_at l v p = slice_index_or (queues_of l v) p no_queue

abbrev pub queue_at : {M : Type 0} → ChannelsState M → ℕ → ℕ → List M
queue_at l v p = (state_at l v p).list

abbrev pub room_at : {M : Type 0} → ChannelsState M → ℕ → ℕ → ℕ
room_at l v p = (state_at l v p).room

-- how many messages wait anywhere
abbrev pub total_of : {M : Type 0} → ChannelsState M → ℕ
total_of l = sum_by (λ qs. sum_by (λ q. length q.list) qs) l.queues

-- the node and the port at which waits what goes out on port p of node v
abbrev pub destination_of : {M : Type 0} → ChannelsState M → ℕ → ℕ → ℕ × ℕ
destination_of l v p = slice_index_or (slice_index_or l.destinations v []) p (0, 0)

-- p is a port of node v
pub record IsPort (g : Shape) (v p : ℕ) : Type 0 where
  pub some : 1 ≤ v
  pub node : v ≤ g.nodes
  pub port : p < length (ports_of g.keys v)

abbrev pub port_of : Shape → ℕ → ℕ → Port
port_of g v p = slice_index_or (ports_of g.keys v) p no_port

-- the end of a link away from node v and its port p
abbrev pub far_end : Shape → ℕ → ℕ → ℕ × ℕ
far_end g v p = let to = port_of g v p in (to.far, to.far_port)

-- one queue for each port of each node of a graph, and links that lead where the graph's do
pub record IsFor {M : Type 0} (g : Shape) (l : ChannelsState M) : Type 0 where
  pub graph : IsGraph g
  pub count : length l.queues ≡ g.nodes + 1
  pub queues : (v p : ℕ) → HasQueue l v p ↔ IsPort g v p
  pub leads : (v p : ℕ) → IsPort g v p → destination_of l v p ≡ far_end g v p

-- the queues of some graph
abbrev pub IsForSome : {M : Type 0} → ChannelsState M → Type 0
IsForSome l = (g : Shape) × IsFor g l

abbrev pub AllEmpty : {M : Type 0} → ChannelsState M → Type 0
AllEmpty l = (v p : ℕ) → HasQueue l v p → queue_at l v p ≡ []

-- The same nodes and ports, and links that lead to the same places. So what were the queues of a graph are still its queues.
pub record SamePorts {M : Type 0} (old new : ChannelsState M) : Type 0 where
  pub count : length new.queues ≡ length old.queues
  pub queues : (v p : ℕ) → HasQueue old v p ↔ HasQueue new v p
  pub leads : new.destinations ≡ old.destinations

-- the queue at port p of node v is now this one, and the others are as they were
pub record Changes {M : Type 0} (old new : ChannelsState M) (v p : ℕ) (q : QueueState M) : Type 0 where
  pub ports : SamePorts old new
  pub here : state_at new v p ≡ q
  pub elsewhere : (u r : ℕ) → HasQueue old u r → ((u ≡ v) × (r ≡ p) → ⊥) → state_at new u r ≡ state_at old u r
  pub total : total_of new + length (queue_at old v p) ≡ total_of old + length q.list

-- the lists are as they were, and nowhere is less room
pub record KeepsLists {M : Type 0} (old new : ChannelsState M) : Type 0 where
  pub ports : SamePorts old new
  pub lists : (v p : ℕ) → HasQueue old v p → queue_at new v p ≡ queue_at old v p
  pub rooms : (v p : ℕ) → HasQueue old v p → room_at old v p ≤ room_at new v p
  pub total : total_of new ≡ total_of old

-- messages that go out, each with its port, in the order of sending
abbrev pub Outgoing : Type 0 → Type 0
Outgoing M = List (ℕ × M)

-- the messages go out on ports of node v
abbrev pub GoOut : {M : Type 0} → ChannelsState M → ℕ → Outgoing M → Type 0
GoOut {M} l v ss = All (λ (s : ℕ × M). HasQueue l v s.0) ss

-- at the far end of each port of node v is room for what goes out on the port
abbrev pub HasRoomFor : {M : Type 0} → ℕ → Outgoing M → ChannelsState M → Type 0
HasRoomFor {M} v ss l =
    (p : ℕ) → HasQueue l v p → let to = destination_of l v p in count_by (λ (s : ℕ × M). s.0 == p) ss ≤ room_at l to.0 to.1
