-- What a run sends, and how many bits it has.
use Rattle.std.specs.Prelude.{ℕ, ◌+◌, ◌==◌, max, Option, Some, None, List, [], ◌∷◌, ◌++◌, if◌then◌else◌}
use Rattle.ghs_graph.specs.Graph.{Shape}
use Rattle.peer_network.specs.declared.event.Event.{Event}
use Rattle.peer_network.specs.Network.{Network, network_of}
use Rattle.peer_machine.specs.Rules.{Rules, Outcome, Outgoing, messages}
use Rattle.peer_machine.specs.Net.{Net, event_node, happens, opening}
use Rattle.peer_net.specs.NetState.{work_at}

-- what a reaction sends
abbrev pub sends_of : {S M : Type 0} → Option (Outcome S M) → Outgoing M
sends_of None = []
sends_of (Some o) = o.sends

-- what f makes of a net, where there is one
abbrev pub if_net : {S M A : Type 0} → Option (Net S M) → (Net S M → A) → A → A
if_net None f a = a
if_net (Some w) f a = f w

module _ {S M : Type 0} (r : Rules S M) where
  -- what the node of an event sends
  abbrev pub sends_at : Net S M → Event → Outgoing M
  sends_at w e = sends_of (r.reaction (w.node (event_node e)) (work_at w e))

  -- what is kept of some events from a net on: f says what each event that happens makes of what was kept
  abbrev pub followed : {A : Type 0} → (Net S M → Event → A → A) → Network → List Event → Net S M → A → A
  followed f g [] w a = a
  followed f g (e ∷ es) w a = if_net (happens r g w e) (λ x. followed f g es x (f w e a)) a

  -- the messages sent, once an event has happened
  abbrev pub sent_then : Net S M → Event → List M → List M
  sent_then w e ms = ms ++ messages (sends_at w e)

  -- all messages that a run sends, in the order of sending
  unfoldable pub all_sent : Network → List Event → List M
  all_sent g es = followed sent_then g es (opening r g) []

  -- the bits of messages together, and those of the longest; 0, where there is none
  abbrev pub bits_in : Shape → List M → ℕ
  bits_in g [] = 0
  bits_in g (m ∷ ms) = r.bits g m + bits_in g ms

  abbrev pub longest_in : Shape → List M → ℕ
  longest_in g [] = 0
  longest_in g (m ∷ ms) = max (r.bits g m) (longest_in g ms)

  -- the bits of those of kind k
  abbrev pub bits_of_kind : Shape → ℕ → List M → ℕ
  bits_of_kind g k [] = 0
  bits_of_kind g k (m ∷ ms) = (if r.kind_of m == k then r.bits g m else 0) + bits_of_kind g k ms

  -- of a run of a graph
  abbrev pub bits_sent : Shape → List Event → ℕ
  bits_sent g es = bits_in g (all_sent (network_of g) es)

  abbrev pub longest_sent : Shape → List Event → ℕ
  longest_sent g es = longest_in g (all_sent (network_of g) es)
