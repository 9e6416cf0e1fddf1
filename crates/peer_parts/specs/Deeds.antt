-- What the events of a run did.
use Rattle.std.specs.Prelude.{ℕ, List, [], ◌∷◌, ◌++◌}
use Rattle.peer_network.specs.declared.event.Event.{Event}
use Rattle.peer_network.specs.Network.{Network}
use Rattle.peer_machine.specs.Rules.{Rules, messages}
use Rattle.peer_machine.specs.Net.{Net, event_node, opening}
use Rattle.peer_machine.specs.Ledger.{of_kind}
use Rattle.peer_net.specs.NetState.{work_at}
use Rattle.peer_words.specs.Words.{Words}
use Rattle.peer_lengths.specs.Sends.{sends_at, followed}

-- an event, the row by which its node reacted, and the messages that the node sent
pub record Deed (M : Type 0) : Type 0 where
  pub event : Event
  pub row : List ℕ
  pub sends : List M

module _ {S M : Type 0} (r : Rules S M) where
  module _ (words : Words S M) where
    -- what an event does in a net
    abbrev pub deed_at : Net S M → Event → Deed M
    deed_at w e = record { event = e; row = words.row (w.node (event_node e)) (work_at w e); sends = messages (sends_at r w e) }

    abbrev pub deed_then : Net S M → Event → List (Deed M) → List (Deed M)
    deed_then w e ds = ds ++ deed_at w e ∷ []

    -- what those of a run did, one after another
    unfoldable pub deeds : Network → List Event → List (Deed M)
    deeds g es = followed r deed_then g es (opening r g) []

  -- how many messages of kind k it sent; a message that was deferred is none of them
  abbrev pub sent_of : ℕ → Deed M → ℕ
  sent_of k d = of_kind r k d.sends
