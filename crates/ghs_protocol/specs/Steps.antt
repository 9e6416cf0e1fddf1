-- What happens in a net, as relations: an event with its reaction, and steps, in which a sleeping node wakes first.
use Rattle.std.specs.Prelude.{◌≡◌, ◌≢◌, ℕ, ◌≤◌, ◌==◌, Some, List, [], ◌∷◌, if◌then◌else◌}
use Rattle.ghs_node.specs.declared.message.Message.{Message}
use Rattle.ghs_node.specs.declared.message.Phase.TheVariants.{Sleeping}
use Rattle.ghs_node.specs.declared.delta.Delta.{Delta}
use Rattle.ghs_node.specs.declared.work.Work.TheVariants.{Wake, Deliver}
use Rattle.ghs_node.specs.Words.{Outgoing}
use Rattle.ghs_node.specs.NodeState.{NodeState}
use Rattle.ghs_node.specs.Reaction.{reaction, at_wake}
use Rattle.ghs_node.specs.Rows.{AwakeRow}
use Rattle.peer_network.specs.declared.event.Event.{Event}
use Rattle.peer_network.specs.declared.event.Event.TheVariants as events
use Rattle.peer_network.specs.Network.{Network, At}
use Rattle.ghs_protocol.specs.Net.{Net, change, send_all, take_first}

-- node v has reacted, and its messages are out
abbrev pub reacted : Network → ℕ → Delta → Net → Net
reacted g v d w = send_all g v d.sends (change v d w)

-- the net after node v took the first message m from its port p, before which ms waited behind it
abbrev pub taken : Network → ℕ → ℕ → Message → List Message → Delta → Net → Net
taken g v p m ms d w = reacted g v d (take_first d.fate v p m ms w)

-- the event happens, and the net is then this one
pub data Happens (g : Network) (w : Net) : Event → Net → Type 0 where
  Woke : (v : ℕ) (d : Delta) → 1 ≤ v → v ≤ g.count → (w.node v).head.phase ≡ Sleeping → reaction (w.node v) Wake ≡ Some d →
      Happens g w (events.Wake v) (reacted g v d w)
  Took : (v p : ℕ) (m : Message) (ms : List Message) (d : Delta) → At g v p → w.queue v p ≡ m ∷ ms →
      reaction (w.node v) (Deliver p m) ≡ Some d → Happens g w (events.Take v p) (taken g v p m ms d w)

-- the messages that go out on a port
abbrev pub sent_on : Outgoing → ℕ → List Message
sent_on [] p = []
sent_on (s ∷ ss) p = if s.0 == p then s.1 ∷ sent_on ss p else sent_on ss p

-- what a sleeping node does when it wakes
abbrev pub waking : NodeState → Delta
waking n = at_wake n n.marks

-- a step: a sleeping node wakes, or a node that is awake takes a message
pub data Step (g : Network) (w : Net) : Net → Type 0 where
  Wakes_up : (v : ℕ) → 1 ≤ v → v ≤ g.count → (w.node v).head.phase ≡ Sleeping → Step g w (reacted g v (waking (w.node v)) w)
  Takes_one : (v p : ℕ) (m : Message) (ms : List Message) (d : Delta) → At g v p → w.queue v p ≡ m ∷ ms → (w.node v).head.phase ≢ Sleeping →
      AwakeRow (w.node v) p m d → Step g w (taken g v p m ms d w)

-- what an event is: one step, or two, where a message comes to a sleeping node
pub data Steps (g : Network) (w : Net) : Net → Type 0 where
  One : {v : Net} → Step g w v → Steps g w v
  Two : {u v : Net} → Step g w u → Step g u v → Steps g w v
