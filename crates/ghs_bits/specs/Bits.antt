-- The bits of a run: the lengths of the messages that its events send, each counted as it is sent for the first time.
use Rattle.std.specs.Prelude.{◌≡◌, ℕ, ◌+◌, max, Option, Some, None, List, [], ◌∷◌, ◌++◌, map}
use Rattle.ghs_graph.specs.Graph.{Shape}
use Rattle.ghs_node.specs.declared.delta.Delta.{Delta}
use Rattle.ghs_node.specs.declared.message.Message.{Message}
use Rattle.ghs_node.specs.Reaction.{reaction}
use Rattle.ghs_node.specs.Words.{Outgoing}
use Rattle.peer_network.specs.declared.event.Event.{Event}
use Rattle.ghs_protocol.specs.Net.{Net, happens, opening}
use Rattle.peer_network.specs.Events.{event_node}
use Rattle.peer_network.specs.Network.{Network, network_of}
use Rattle.ghs_core.specs.NetState.{NetState, work_at}
use Rattle.ghs_bits.specs.declared.bits.Bits.{Bits}
use Rattle.ghs_bits.specs.declared.widths.Widths.{Widths}
use Rattle.ghs_bits.specs.Length.{length_of, widths_of}

-- the messages without their ports
abbrev pub messages_of : Outgoing → List Message
messages_of ss = map (λ (s : ℕ × Message). s.1) ss

-- what a reaction sends; what it puts back is no part of that
abbrev pub sends_of : Option Delta → List Message
sends_of None = []
sends_of (Some d) = messages_of d.sends

-- what the node of an event sends
abbrev pub sends_at : Net → Event → List Message
sends_at w e = sends_of (reaction (w.node (event_node e)) (work_at w e))

abbrev pub if_then : Option Net → (Net → List Message) → List Message
if_then None f = []
if_then (Some w) f = f w

-- what some events send, from a net on
abbrev pub sends_after : Network → List Event → Net → List Message
sends_after g [] w = []
sends_after g (e ∷ es) w = if_then (happens g w e) (λ x. sends_at w e ++ sends_after g es x)

-- all messages that a run sends, in the order of sending
unfoldable pub all_sent : Network → List Event → List Message
all_sent g es = sends_after g es (opening g)

-- their bits together, and those of the longest; 0, where there is none
abbrev pub bits_in : Widths → List Message → ℕ
bits_in w [] = 0
bits_in w (m ∷ ms) = length_of w m + bits_in w ms

abbrev pub longest_in : Widths → List Message → ℕ
longest_in w [] = 0
longest_in w (m ∷ ms) = max (length_of w m) (longest_in w ms)

-- of a run of a graph
abbrev pub bits_sent : Shape → List Event → ℕ
bits_sent g es = bits_in (widths_of g) (all_sent (network_of g) es)

abbrev pub longest_sent : Shape → List Event → ℕ
longest_sent g es = longest_in (widths_of g) (all_sent (network_of g) es)

-- the bits that are kept are those of a run
pub record AreBitsOf (g : Shape) (es : List Event) (b : Bits) : Type 0 where
  pub widths : b.widths ≡ widths_of g
  pub sent : b.sent ≡ bits_sent g es
  pub longest : b.longest ≡ longest_sent g es

-- of a net's run
abbrev pub AreBits : NetState → Bits → Type 0
AreBits s b = AreBitsOf s.graph s.trace b

-- of its run once the event has happened
abbrev pub AreBitsThen : NetState → Event → Bits → Type 0
AreBitsThen s e b = AreBitsOf s.graph (s.trace ++ e ∷ []) b
