-- How all queues are laid out, and what their fields keep.
use Rattle.std.specs.Prelude.{◌≡◌, ℕ, ◌+◌, ◌-◌, ◌<◌, ◌≤◌, ◌==◌, nat_le, List, [], length, map, take, drop, count_by, slice_index, slice_index_or}
use Rattle.std.specs.List.{range_with_len, slice_range, sum_by}
use Rattle.ghs_graph.specs.Graph.{Shape, nodes_of}
use Rattle.ghs_graph.specs.Ports.{ports_of}
use Rattle.peer_channels.specs.Queue.{QueueState, Slot, no_queue}
use Rattle.peer_channels.specs.Channels.{ChannelsState, Outgoing, IsPort, port_of}

-- All queues in one list, node by node; where those of each node begin, with an end; and for each queue the place of the one at the
-- far end of its link.
pub record Laid (M : Type 0) : Type 0 where
  pub starts : List ℕ
  pub queues : List (QueueState M)
  pub far : List ℕ

-- of each slot its queue, and the place that it leads to
abbrev pub queues_in : {M : Type 0} → List (Slot M) → List (QueueState M)
queues_in {M} = map (λ (s : Slot M). s.queue)

abbrev pub places_in : {M : Type 0} → List (Slot M) → List ℕ
places_in {M} = map (λ (s : Slot M). s.far)

abbrev pub laid : {M : Type 0} → List ℕ → List (Slot M) → Laid M
laid starts slots = record { starts = starts; queues = queues_in slots; far = places_in slots }

-- the places that the slots from one on lead to, so many at most
abbrev pub places_from : {M : Type 0} → ℕ → ℕ → List (Slot M) → List ℕ
places_from start most slots = take most (drop start (places_in slots))

abbrev pub start_of : {M : Type 0} → Laid M → ℕ → ℕ
start_of l v = slice_index l.starts v

-- the part of node v of a list that has something for each queue
abbrev pub part_of : {X : Type 0} → List ℕ → List X → ℕ → List X
part_of starts xs v = slice_range xs (slice_index starts v) (slice_index starts (v + 1))

-- the node and the port of which the queue stands at a place
abbrev pub node_at : List ℕ → ℕ → ℕ
node_at starts i = count_by (λ s. nat_le s i) starts - 1

abbrev pub port_at : List ℕ → ℕ → ℕ × ℕ
port_at starts i = (node_at starts i, i - slice_index starts (node_at starts i))

-- what contracts see of it
unfoldable pub seen : {M : Type 0} → Laid M → ChannelsState M
seen l = record {
  queues = map (part_of l.starts l.queues) (range_with_len 0 (length l.starts - 1));
  destinations = map (λ v. map (port_at l.starts) (part_of l.starts l.far v)) (range_with_len 0 (length l.starts - 1));
}

-- the parts of the nodes in order, from the first place to the last; and each queue's far end is another place
pub record AreInOrder {M : Type 0} (l : Laid M) : Type 0 where
  pub some : 0 < length l.starts
  pub first : start_of l 0 ≡ 0
  pub rising : (u v : ℕ) → u ≤ v → v < length l.starts → start_of l u ≤ start_of l v
  pub last : start_of l (length l.starts - 1) ≡ length l.queues
  pub wide : length l.far ≡ length l.queues
  pub far : (i : ℕ) → i < length l.queues → slice_index l.far i < length l.queues

abbrev pub waiting_in : {M : Type 0} → List (QueueState M) → ℕ
waiting_in {M} qs = sum_by (λ (q : QueueState M). length q.list) qs

-- queues in order, enough claims for the ports of each node, none of them made, and all messages counted
pub record IsKept {M : Type 0} (l : Laid M) (claims : List ℕ) (sum : ℕ) : Type 0 where
  pub order : AreInOrder l
  pub enough : (v : ℕ) → v + 1 < length l.starts → start_of l (v + 1) ≤ start_of l v + length claims
  pub unclaimed : (k : ℕ) → slice_index claims k ≡ 0
  pub total : sum ≡ waiting_in l.queues

-- how many messages go out on a port
abbrev pub count_on : {M : Type 0} → ℕ → Outgoing M → ℕ
count_on {M} k ss = count_by (λ (s : ℕ × M). s.0 == k) ss

-- no claim but for ports that the messages go out on
abbrev pub ClaimsOnly : {M : Type 0} → Outgoing M → List ℕ → Type 0
ClaimsOnly ss claims = (k : ℕ) → count_on k ss ≡ 0 → slice_index claims k ≡ 0

-- the lists are as they were, and nowhere is less room
abbrev pub KeepsEach : {M : Type 0} → List (QueueState M) → List (QueueState M) → Type 0
KeepsEach old new =
    (i : ℕ) → ((slice_index_or new i no_queue).list ≡ (slice_index_or old i no_queue).list) ×
    ((slice_index_or old i no_queue).room ≤ (slice_index_or new i no_queue).room)

-- at the far end of each port is room for what goes out on the port
abbrev pub HasRoomAt : {M : Type 0} → List ℕ → Outgoing M → List (QueueState M) → Type 0
HasRoomAt far ss qs = (p : ℕ) → p < length far → count_on p ss ≤ (slice_index_or qs (slice_index far p) no_queue).room

-- where the queues of the nodes up to n begin, one for each port, and the greatest number of ports
pub record AreBlocks (g : Shape) (n : ℕ) (starts : List ℕ) (widest : ℕ) : Type 0 where
  pub count : length starts ≡ n + 2
  pub first : slice_index starts 0 ≡ 0
  pub second : slice_index starts 1 ≡ 0
  pub next : (v : ℕ) → 1 ≤ v → v ≤ n → slice_index starts (v + 1) ≡ slice_index starts v + length (ports_of g.keys v)
  pub rising : (u v : ℕ) → u ≤ v → v < length starts → slice_index starts u ≤ slice_index starts v
  pub most : (v : ℕ) → 1 ≤ v → v ≤ n → length (ports_of g.keys v) ≤ widest
  pub all : slice_index starts (n + 1) ≡ sum_by (λ v. length (ports_of g.keys v)) (take n (nodes_of g))

-- the parts of all nodes of a graph
abbrev pub AreParts : Shape → List ℕ → Type 0
AreParts g starts = (widest : ℕ) × AreBlocks g g.nodes starts widest

-- each number in the list is the place of the queue at the far end
abbrev pub LeadFar : Shape → List ℕ → List ℕ → Type 0
LeadFar g starts far =
    (v p : ℕ) → IsPort g v p → slice_index starts v + p < length far →
    slice_index far (slice_index starts v + p) ≡ slice_index starts (port_of g v p).far + (port_of g v p).far_port

-- no message in any queue
abbrev pub EachEmpty : {M : Type 0} → List (QueueState M) → Type 0
EachEmpty qs = (i : ℕ) → (slice_index_or qs i no_queue).list ≡ []
