-- What a protocol promises of the ends of its runs.
use Rattle.std.specs.Prelude.{◌≡◌, ◌↔◌, ℕ, [], false}
use Rattle.ghs_graph.specs.Graph.{Shape}
use Rattle.ghs_graph.specs.Links.{Joined, links}
use Rattle.peer_network.specs.Network.{Network, network_of, InNetwork, At}
use Rattle.peer_machine.specs.Rules.{Rules}
use Rattle.peer_machine.specs.Net.{Net}
use Rattle.peer_machine.specs.Run.{IsNetOf}

-- no message waits at any port
abbrev pub IsSilent : {S M : Type 0} → Network → Net S M → Type 0
IsSilent g w = (v p : ℕ) → At g v p → w.queue v p ≡ []

module _ {S M : Type 0} (r : Rules S M) where
  -- nobody sleeps
  abbrev pub AllAwake : Network → Net S M → Type 0
  AllAwake g w = (v : ℕ) → InNetwork g v → r.is_asleep (w.node v) ≡ false

  -- in silence nobody sleeps in the component of a node that is awake
  abbrev pub SilenceWakesAll : Type 0
  SilenceWakesAll =
      (g : Shape) (w : Net S M) → IsNetOf r g w → IsSilent (network_of g) w → (u v : ℕ) → InNetwork (network_of g) u →
      InNetwork (network_of g) v → Joined (links g.keys) u v → r.is_asleep (w.node u) ≡ false → r.is_asleep (w.node v) ≡ false

  -- a run has ended just where no message waits and nobody sleeps
  abbrev pub SilenceIsEnd : (Shape → Net S M → Type 0) → Type 0
  SilenceIsEnd has_ended =
      (g : Shape) (w : Net S M) → IsNetOf r g w → (has_ended g w ↔ (IsSilent (network_of g) w × AllAwake (network_of g) w))
