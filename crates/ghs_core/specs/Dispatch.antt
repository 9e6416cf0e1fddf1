-- Messages that go out from one node.
use Rattle.std.specs.Prelude.{◌≡◌, ℕ, ◌+◌, ◌<◌, ◌≤◌, ◌==◌, List, [], ◌∷◌, ◌++◌, length, map, slice_index, if◌then◌else◌}
use Rattle.ghs_graph.specs.Graph.{Shape}
use Rattle.ghs_node.specs.declared.message.Message.{Message}
use Rattle.ghs_node.specs.declared.delta.Fate.{Fate}
use Rattle.ghs_node.specs.Kind.{kind_of, place_of}
use Rattle.ghs_node.specs.Words.{Outgoing}
use Rattle.peer_channels.specs.Channels.{ChannelsState, HasQueue, SamePorts, queue_at, room_at, total_of}
use Rattle.peer_network.specs.Network.{Network, network_of, At, far, far_port}
use Rattle.ghs_protocol.specs.Net.{left_of, one_if_consumed, one_if_requeued}
use Rattle.ghs_protocol.specs.Ledger.{of_kind}
use Rattle.ghs_protocol.specs.Steps.{sent_on}
use Rattle.peer_network.specs.declared.event.Event.{Event}
use Rattle.peer_network.specs.declared.event.Event.TheVariants.{Wake, Take}
use Rattle.ghs_core.specs.declared.counts.Counts.{Counts}

-- what comes in at port r of node u of the messages that node v sends
abbrev pub arriving : Network → ℕ → Outgoing → ℕ → ℕ → List Message
arriving g v ss u r = if far g u r == v then sent_on ss (far_port g u r) else []

-- each message has come in at the far end of the port it went out on, and took no more room than its own
pub record Arrives (g : Shape) (v : ℕ) (ss : Outgoing) (old new : ChannelsState Message) : Type 0 where
  pub ports : SamePorts old new
  pub queue : (u r : ℕ) → At (network_of g) u r → queue_at new u r ≡ queue_at old u r ++ arriving (network_of g) v ss u r
  pub rooms : (u r : ℕ) → At (network_of g) u r → room_at old u r ≤ room_at new u r + length (arriving (network_of g) v ss u r)
  pub total : total_of new ≡ total_of old + length ss

abbrev pub messages_of : Outgoing → List Message
messages_of ss = map (λ (s : ℕ × Message). s.1) ss

-- the messages are counted by their kinds
abbrev pub CountsSends : Outgoing → List ℕ → List ℕ → Type 0
CountsSends ss old new = (k : ℕ) → k < 7 → slice_index new k ≡ slice_index old k + of_kind k (messages_of ss)

-- the first message m, before which ms wait behind it, has met its fate
pub record Met (f : Fate) (v p : ℕ) (m : Message) (ms : List Message) (old new : ChannelsState Message) : Type 0 where
  pub ports : SamePorts old new
  pub here : queue_at new v p ≡ left_of f m ms
  pub elsewhere : (u r : ℕ) → HasQueue old u r → ((u ≡ v) × (r ≡ p) → ⊥) → queue_at new u r ≡ queue_at old u r
  pub rooms : (u r : ℕ) → HasQueue old u r → room_at old u r ≤ room_at new u r
  pub total : total_of new + one_if_consumed f ≡ total_of old

-- and it is counted as consumed or as requeued
pub record CountsFate (f : Fate) (m : Message) (old new : Counts) : Type 0 where
  pub sent : new.sent ≡ old.sent
  pub consumed : (k : ℕ) →
      k < 7 →
      slice_index new.consumed k ≡ slice_index old.consumed k + (if place_of (kind_of m) == k then one_if_consumed f else 0)
  pub requeued : new.requeued ≡ old.requeued + one_if_requeued f

-- a message waits where the event takes one
abbrev pub WaitsAt : Event → ChannelsState Message → Type 0
WaitsAt (Wake v) l = Unit {0}
WaitsAt (Take v p) l = HasQueue l v p × (0 < length (queue_at l v p))

-- what an event does to the queues and counts before its node reacts
abbrev pub Disposes : Event → Fate → ChannelsState Message → ChannelsState Message → Counts → Counts → Type 0
Disposes (Wake v) f l l' c c' = (l' ≡ l) × (c' ≡ c)
Disposes (Take v p) f l l' c c' = (m : Message) (ms : List Message) → queue_at l v p ≡ m ∷ ms → Met f v p m ms l l' × CountsFate f m c c'
