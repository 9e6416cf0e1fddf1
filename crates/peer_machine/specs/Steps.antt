-- What happens in a net, as a relation: an event with its reaction.
use Rattle.std.specs.Prelude.{◌≡◌, ℕ, ◌≤◌, true, Some, List, ◌∷◌}
use Rattle.peer_network.specs.declared.event.Event.{Event}
use Rattle.peer_network.specs.declared.event.Event.TheVariants as events
use Rattle.peer_network.specs.Network.{Network, At}
use Rattle.peer_machine.specs.declared.work.Work.TheVariants.{Wake, Deliver}
use Rattle.peer_machine.specs.Rules.{Rules, Outcome}
use Rattle.peer_machine.specs.Net.{Net, take_first, reacted, are_on_ports}

-- the event happens, and the net is then this one
pub data Happens {S M : Type 0} (r : Rules S M) (g : Network) (w : Net S M) : Event → Net S M → Type 0 where
  Woke : (v : ℕ) (o : Outcome S M) → 1 ≤ v → v ≤ g.count → r.is_asleep (w.node v) ≡ true → r.reaction (w.node v) Wake ≡ Some o →
      are_on_ports r g v o.sends ≡ true → Happens r g w (events.Wake v) (reacted r g v o w)
  Took : (v p : ℕ) (m : M) (ms : List M) (o : Outcome S M) → At g v p → w.queue v p ≡ m ∷ ms → r.reaction (w.node v) (Deliver p m) ≡ Some o →
      are_on_ports r g v o.sends ≡ true → Happens r g w (events.Take v p) (reacted r g v o (take_first r g v p m ms w))
