-- Which message was sent last to each port: the messages of a run are numbered 1, 2, .. as they are sent.
use Rattle.std.specs.Prelude.{ℕ, suc, Option, Some, None, List, [], ◌∷◌}
use Rattle.peer_network.specs.declared.event.Event.{Event}
use Rattle.peer_network.specs.Network.{Network, port_at}
use Rattle.peer_machine.specs.Rules.{Rules, Outcome, Outgoing}
use Rattle.peer_machine.specs.Net.{Net, event_node, put_at, happens, opening}
use Rattle.peer_net.specs.NetState.{work_at}

-- how many messages were sent, and for each port, by its node and place, the number of the last one that was sent to it; 0 where none was
pub record Newest : Type 0 where
  pub count : ℕ
  pub last : ℕ → ℕ → ℕ

abbrev pub none_sent : Newest
none_sent = record { count = 0; last = λ v p. 0 }

-- a message more, to port p of node v
abbrev pub numbered : ℕ → ℕ → Newest → Newest
numbered v p n = record { count = suc n.count; last = put_at n.last v p (suc n.count) }

-- a message that a node sends on a port goes to the port at the far end
abbrev pub sent_on : Network → ℕ → ℕ → Newest → Newest
sent_on g v p n = let to = port_at g v p in numbered to.far to.far_port n

abbrev pub sent : {M : Type 0} → Network → ℕ → Outgoing M → Newest → Newest
sent g v [] n = n
sent g v (s ∷ ss) n = sent g v ss (sent_on g v s.0 n)

-- what an event's node sends by its reaction
abbrev pub answered : {S M : Type 0} → Network → Event → Option (Outcome S M) → Newest → Newest
answered g e None n = n
answered g e (Some o) n = sent g (event_node e) o.sends n

abbrev pub if_then : {S M : Type 0} → Option (Net S M) → (Net S M → Newest) → Newest → Newest
if_then None f n = n
if_then (Some w) f n = f w

module _ {S M : Type 0} (r : Rules S M) (g : Network) where
  abbrev pub newest_then : Net S M → Event → Newest → Newest
  newest_then w e n = answered g e (r.reaction (w.node (event_node e)) (work_at w e)) n

  -- the same, after some events from a net on
  abbrev pub newest_after : List Event → Net S M → Newest → Newest
  newest_after [] w n = n
  newest_after (e ∷ es) w n = if_then (happens r g w e) (λ x. newest_after es x (newest_then w e n)) n

  -- and after a run
  unfoldable pub newest_of : List Event → Newest
  newest_of es = newest_after es (opening r g) none_sent
