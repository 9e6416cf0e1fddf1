-- All nodes and all queues of a network under some rules, and what one event does to them.
use Rattle.std.specs.Prelude.{ℕ, suc, Bool, true, false, ◌&&◌, nat_lt, Option, Some, None, List, [], ◌∷◌, ◌++◌, length, if◌then◌else◌}
use Rattle.peer_network.specs.declared.event.Event.{Event}
use Rattle.peer_network.specs.declared.event.Event.TheVariants as events
use Rattle.peer_network.specs.Network.{Network, port_at}
pub use Rattle.peer_network.specs.Network.{is_node, is_port}
pub use Rattle.peer_network.specs.Events.{event_node}
pub use Rattle.peer_network.specs.Updates.{put, put_at}
use Rattle.peer_machine.specs.declared.work.Work.TheVariants.{Wake, Deliver}
use Rattle.peer_machine.specs.Rules.{Rules, Outcome, Outgoing}

-- the state of each node, the messages that wait at each of its ports, the counts by kind, and how many times a message was deferred
pub record Net (S M : Type 0) : Type 0 where
  pub node : ℕ → S
  pub queue : ℕ → ℕ → List M
  pub sent : ℕ → ℕ
  pub consumed : ℕ → ℕ
  pub deferred : ℕ

-- what waits once the first message m was taken, with ms behind it: m is at the end where it was deferred, else it is gone
abbrev pub left_of : {M : Type 0} → Bool → M → List M → List M
left_of true m ms = ms ++ m ∷ []
left_of false m ms = ms

module _ {S M : Type 0} (r : Rules S M) (g : Network) where
  -- each node as it opens, no message anywhere
  abbrev pub opening : Net S M
  opening = record { node = λ v. r.opening v (g.ports v); queue = λ v p. []; sent = λ k. 0; consumed = λ k. 0; deferred = 0 }

  -- one message goes out on a port of node v: to the end of the queue at the far end's port
  abbrev pub send : ℕ → Net S M → ℕ × M → Net S M
  send v w s =
      let to = port_at g v s.0 in
      let k = r.kind_of s.1 in
      record w { queue = put_at w.queue to.far to.far_port (w.queue to.far to.far_port ++ s.1 ∷ []); sent = put w.sent k (suc (w.sent k)) }

  abbrev pub send_all : ℕ → Outgoing M → Net S M → Net S M
  send_all v [] w = w
  send_all v (s ∷ ss) w = send_all v ss (send v w s)

  -- the first message m of a queue is taken, and ms wait behind it: it is consumed, or deferred
  abbrev pub take_first : ℕ → ℕ → M → List M → Net S M → Net S M
  take_first v p m ms w =
      let later = r.defers (w.node v) (Deliver p m) in
      let k = r.kind_of m in
      record w {
        queue = put_at w.queue v p (left_of later m ms);
        consumed = if later then w.consumed else put w.consumed k (suc (w.consumed k));
        deferred = if later then suc w.deferred else w.deferred;
      }

  -- node v has reacted, and its messages are out
  abbrev pub reacted : ℕ → Outcome S M → Net S M → Net S M
  reacted v o w = send_all v o.sends (record w { node = put w.node v o.state })

  -- the event may happen: a sleeping node of the network wakes, or a message waits at a port
  abbrev pub is_lawful : Net S M → Event → Bool
  is_lawful w (events.Wake v) = is_node g v && r.is_asleep (w.node v)
  is_lawful w (events.Take v p) = is_port g v p && nat_lt 0 (length (w.queue v p))

  -- each message goes out on a port of node v
  abbrev pub are_on_ports : ℕ → Outgoing M → Bool
  are_on_ports v [] = true
  are_on_ports v (s ∷ ss) = nat_lt s.0 (length (g.ports v)) && are_on_ports v ss

  -- the net after a reaction; one that sends where no port is counts as none
  abbrev pub if_reacted : ℕ → Option (Outcome S M) → Net S M → Option (Net S M)
  if_reacted v None w = None
  if_reacted v (Some o) w = if are_on_ports v o.sends then Some (reacted v o w) else None

  abbrev pub takes_from : Net S M → ℕ → ℕ → List M → Option (Net S M)
  takes_from w v p [] = None
  takes_from w v p (m ∷ ms) = if_reacted v (r.reaction (w.node v) (Deliver p m)) (take_first v p m ms w)

  -- what an event does, if there is a rule for it
  abbrev pub effect : Net S M → Event → Option (Net S M)
  effect w (events.Wake v) = if_reacted v (r.reaction (w.node v) Wake) w
  effect w (events.Take v p) = takes_from w v p (w.queue v p)

  -- the net after an event that is lawful and has a rule
  abbrev pub happens : Net S M → Event → Option (Net S M)
  happens w e = if is_lawful w e then effect w e else None
