-- All nodes and all queues of a network, and what one event does to them.
use Rattle.std.specs.Prelude.{ℕ, suc, ◌+◌, Bool, true, false, ◌&&◌, Option, Some, None, List, [], ◌∷◌, ◌++◌, if◌then◌else◌}
use Rattle.ghs_node.specs.declared.message.Message.{Message}
use Rattle.ghs_node.specs.declared.delta.Fate.{Fate}
use Rattle.ghs_node.specs.declared.delta.Fate.TheVariants.{Consumed, Requeued}
use Rattle.ghs_node.specs.declared.delta.Delta.{Delta}
use Rattle.ghs_node.specs.declared.work.Work.TheVariants.{Wake, Deliver}
use Rattle.ghs_node.specs.Kind.{kind_of, place_of}
use Rattle.ghs_node.specs.Words.{Outgoing, is_sleeping}
use Rattle.ghs_node.specs.NodeState.{NodeState, sleeper}
use Rattle.ghs_node.specs.Reaction.{reaction, after}
use Rattle.peer_network.specs.declared.event.Event.{Event}
use Rattle.peer_network.specs.declared.event.Event.TheVariants as events
use Rattle.peer_network.specs.Network.{Network, port_at, is_node, is_port}
use Rattle.peer_network.specs.Updates.{put, put_at}

-- the state of each node, the messages that wait at each of its ports, and the counts by a kind's place
pub record Net : Type 0 where
  pub node : ℕ → NodeState
  pub queue : ℕ → ℕ → List Message
  pub sent : ℕ → ℕ
  pub consumed : ℕ → ℕ
  pub requeued : ℕ

-- all nodes asleep, no message anywhere
abbrev pub opening : Network → Net
opening g = record { node = λ v. sleeper v (g.ports v); queue = λ v p. []; sent = λ k. 0; consumed = λ k. 0; requeued = 0 }

-- one message goes out on a port of node v: to the end of the queue at the far end's port
abbrev pub send : Network → ℕ → Net → ℕ × Message → Net
send g v w s =
    let to = port_at g v s.0 in
    let k = place_of (kind_of s.1) in
    record w { queue = put_at w.queue to.far to.far_port (w.queue to.far to.far_port ++ s.1 ∷ []); sent = put w.sent k (suc (w.sent k)) }

abbrev pub send_all : Network → ℕ → Outgoing → Net → Net
send_all g v [] w = w
send_all g v (s ∷ ss) w = send_all g v ss (send g v w s)

-- node v has reacted
abbrev pub change : ℕ → Delta → Net → Net
change v d w = record w { node = put w.node v (after (w.node v) d) }

-- what waits once the first message was taken: it is gone, or at the end
abbrev pub left_of : Fate → Message → List Message → List Message
left_of Consumed m ms = ms
left_of Requeued m ms = ms ++ m ∷ []

abbrev pub one_if_consumed : Fate → ℕ
one_if_consumed Consumed = 1
one_if_consumed Requeued = 0

abbrev pub one_if_requeued : Fate → ℕ
one_if_requeued Consumed = 0
one_if_requeued Requeued = 1

-- the first message m of a queue meets its fate
abbrev pub take_first : Fate → ℕ → ℕ → Message → List Message → Net → Net
take_first f v p m ms w =
    let k = place_of (kind_of m) in
    record w {
      queue = put_at w.queue v p (left_of f m ms);
      consumed = put w.consumed k (w.consumed k + one_if_consumed f);
      requeued = w.requeued + one_if_requeued f;
    }

abbrev pub is_waiting : List Message → Bool
is_waiting [] = false
is_waiting (m ∷ ms) = true

-- the event may happen: a sleeping node of the network wakes, or a message waits at a port
abbrev pub is_lawful : Network → Net → Event → Bool
is_lawful g w (events.Wake v) = is_node g v && is_sleeping (w.node v).head.phase
is_lawful g w (events.Take v p) = is_port g v p && is_waiting (w.queue v p)

-- the same, where only some nodes may wake by themselves
abbrev pub is_lawful_under : (ℕ → Bool) → Network → Net → Event → Bool
is_lawful_under may g w (events.Wake v) = may v && is_lawful g w (events.Wake v)
is_lawful_under may g w (events.Take v p) = is_lawful g w (events.Take v p)

abbrev pub after_wake : Network → Net → ℕ → Option Delta → Option Net
after_wake g w v None = None
after_wake g w v (Some d) = Some (send_all g v d.sends (change v d w))

abbrev pub after_take : Network → Net → ℕ → ℕ → Message → List Message → Option Delta → Option Net
after_take g w v p m ms None = None
after_take g w v p m ms (Some d) = Some (send_all g v d.sends (change v d (take_first d.fate v p m ms w)))

abbrev pub takes_from : Network → Net → ℕ → ℕ → List Message → Option Net
takes_from g w v p [] = None
takes_from g w v p (m ∷ ms) = after_take g w v p m ms (reaction (w.node v) (Deliver p m))

-- what an event does, if there is a rule for it
abbrev pub effect : Network → Net → Event → Option Net
effect g w (events.Wake v) = after_wake g w v (reaction (w.node v) Wake)
effect g w (events.Take v p) = takes_from g w v p (w.queue v p)

-- the net after an event that is lawful and has a rule
abbrev pub happens : Network → Net → Event → Option Net
happens g w e = if is_lawful g w e then effect g w e else None
