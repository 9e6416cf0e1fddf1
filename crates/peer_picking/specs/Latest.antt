-- The port to which a message was sent last, of those at which a message waits.
use Rattle.std.specs.Prelude.{◌≡◌, ℕ, ◌≤◌, true, false}
use Rattle.peer_network.specs.declared.event.Event.{Event}
use Rattle.peer_network.specs.declared.event.Event.TheVariants.{Wake, Take}
use Rattle.peer_network.specs.Network.{Network}
use Rattle.peer_machine.specs.Rules.{Rules}
use Rattle.peer_machine.specs.Net.{Net, is_lawful}
use Rattle.peer_picking.specs.Newest.{Newest}

module _ {S M : Type 0} (r : Rules S M) (g : Network) (w : Net S M) where
  -- The event takes a message, and of all ports at which one waits this is the one to which a message was sent last. What waits at one port is taken
  -- in its order: what stands before that message comes first.
  abbrev pub IsLatest : Newest → Event → Type 0
  IsLatest n (Wake v) = ⊥
  IsLatest n (Take v p) = (is_lawful r g w (Take v p) ≡ true) × ((u q : ℕ) → is_lawful r g w (Take u q) ≡ true → n.last u q ≤ n.last v p)

  -- no message waits
  abbrev pub NoTake : Type 0
  NoTake = (v p : ℕ) → is_lawful r g w (Take v p) ≡ false
