-- The reactions that the events of a run bring about, and the one that halts a node.
use Rattle.std.specs.Prelude.{◌≡◌, ℕ, true, List, ◌∷◌, Some}
use Rattle.ghs_node.specs.declared.message.Message.{Message}
use Rattle.ghs_node.specs.declared.delta.Delta.{Delta}
use Rattle.ghs_node.specs.declared.work.Work.TheVariants.{Wake, Deliver}
use Rattle.ghs_node.specs.Reaction.{reaction}
use Rattle.peer_network.specs.declared.event.Event.{Event}
use Rattle.peer_network.specs.declared.event.Event.TheVariants as events
use Rattle.peer_network.specs.Network.{Network}
use Rattle.ghs_protocol.specs.Net.{Net, happens}

-- the reaction of node v that an event brings about
pub data Reacts (w : Net) : Event → ℕ → Delta → Type 0 where
  By_waking : {v : ℕ} {d : Delta} → reaction (w.node v) Wake ≡ Some d → Reacts w (events.Wake v) v d
  By_taking : {v p : ℕ} {m : Message} {ms : List Message} {d : Delta} → w.queue v p ≡ m ∷ ms → reaction (w.node v) (Deliver p m) ≡ Some d →
      Reacts w (events.Take v p) v d

-- one of node v's reactions in these events halts it
pub data Halts (g : Network) (v : ℕ) : Net → List Event → Type 0 where
  Now : {w : Net} {e : Event} {es : List Event} (d : Delta) → Reacts w e v d → d.halts ≡ true → Halts g v w (e ∷ es)
  Later : {w x : Net} {e : Event} {es : List Event} → happens g w e ≡ Some x → Halts g v x es → Halts g v w (e ∷ es)
