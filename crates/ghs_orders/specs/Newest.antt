-- Which message was sent last to each port: the messages of a run are numbered 1, 2, .. as they are sent.
use Rattle.std.specs.Prelude.{ℕ, suc, Option, Some, None, List, [], ◌∷◌}
use Rattle.ghs_node.specs.declared.delta.Delta.{Delta}
use Rattle.ghs_node.specs.Reaction.{reaction}
use Rattle.ghs_node.specs.Words.{Outgoing}
use Rattle.peer_network.specs.declared.event.Event.{Event}
use Rattle.peer_network.specs.Network.{Network, port_at}
use Rattle.ghs_protocol.specs.Net.{Net, happens, opening}
use Rattle.peer_network.specs.Events.{event_node}
use Rattle.peer_network.specs.Updates.{put_at}
use Rattle.ghs_core.specs.NetState.{work_at}

-- how many messages were sent, and for each port, by its node and place, the number of the last one that was sent to it; 0 where none was
pub record Newest : Type 0 where
  pub count : ℕ
  pub last : ℕ → ℕ → ℕ

abbrev pub none_sent : Newest
none_sent = record { count = 0; last = λ v p. 0 }

-- a message more, to port p of node v
abbrev pub numbered : ℕ → ℕ → Newest → Newest
numbered v p n = record { count = suc n.count; last = put_at n.last v p (suc n.count) }

-- a message that a node sends on a port goes to the port at the far end
abbrev pub sent_on : Network → ℕ → ℕ → Newest → Newest
sent_on g v p n = let to = port_at g v p in numbered to.far to.far_port n

abbrev pub sent : Network → ℕ → Outgoing → Newest → Newest
sent g v [] n = n
sent g v (s ∷ ss) n = sent g v ss (sent_on g v s.0 n)

-- what an event's node sends by its reaction; a message that is put back isn't sent anew
abbrev pub answered : Network → Event → Option Delta → Newest → Newest
answered g e None n = n
answered g e (Some d) n = sent g (event_node e) d.sends n

abbrev pub newest_then : Network → Net → Event → Newest → Newest
newest_then g w e n = answered g e (reaction (w.node (event_node e)) (work_at w e)) n

abbrev pub if_then : Option Net → (Net → Newest) → Newest → Newest
if_then None f n = n
if_then (Some w) f n = f w

-- the same, after some events from a net on
abbrev pub newest_after : Network → List Event → Net → Newest → Newest
newest_after g [] w n = n
newest_after g (e ∷ es) w n = if_then (happens g w e) (λ x. newest_after g es x (newest_then g w e n)) n

-- and after a run
unfoldable pub newest_of : Network → List Event → Newest
newest_of g es = newest_after g es (opening g) none_sent
