-- The port to which a message was sent last, of those whose first message would be consumed.
use Rattle.std.specs.Prelude.{◌≡◌, ℕ, ◌≤◌, Bool, true, false}
use Rattle.peer_network.specs.declared.event.Event.{Event}
use Rattle.peer_network.specs.declared.event.Event.TheVariants.{Wake, Take}
use Rattle.peer_network.specs.Network.{Network}
use Rattle.ghs_protocol.specs.Net.{Net}
use Rattle.ghs_patient.specs.Patience.{moves_on}
use Rattle.ghs_orders.specs.Newest.{Newest}

-- The event takes a message that isn't only put back, and of all ports with such a message at their front this is the one to which
-- a message was sent last. What waits at one port is taken in its order: what stands before that message comes first.
abbrev pub IsLatest : (ℕ → Bool) → Network → Net → Newest → Event → Type 0
IsLatest may g w n (Wake v) = ⊥
IsLatest may g w n (Take v p) = (moves_on may g w (Take v p) ≡ true) × ((u q : ℕ) → moves_on may g w (Take u q) ≡ true → n.last u q ≤ n.last v p)

-- each message at the front of its port would only be put back
abbrev pub NoTakeMoves : (ℕ → Bool) → Network → Net → Type 0
NoTakeMoves may g w = (v p : ℕ) → moves_on may g w (Take v p) ≡ false
