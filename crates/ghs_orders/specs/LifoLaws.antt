-- What holds of every run.
use Rattle.std.specs.Prelude.{◌≡◌, ℕ, Bool, List}
use Rattle.peer_network.specs.declared.event.Event.{Event}
use Rattle.peer_network.specs.Network.{Network}
use Rattle.ghs_protocol.specs.Net.{Net}
use Rattle.ghs_protocol.specs.Run.{IsAfter}
use Rattle.ghs_orders.specs.Latest.{IsLatest}
use Rattle.ghs_orders.specs.Newest.{newest_of}

-- there is one such Take at most
abbrev pub LatestIsOne : Type 0
LatestIsOne =
    (may : ℕ → Bool) (g : Network) (es : List Event) (w : Net) (e f : Event) → IsAfter g es w →
    IsLatest may g w (newest_of g es) e → IsLatest may g w (newest_of g es) f → e ≡ f
