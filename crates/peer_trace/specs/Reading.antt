-- What a text is to who asks for a run of a protocol.
use Rattle.std.specs.Prelude.{ℕ, ◌≡◌, ◌≢◌, true, map, List, Option, Some, None}
use Rattle.std.specs.Option.{is_some}
use Rattle.peer_network.specs.declared.event.Event.{Event}
use Rattle.peer_texts.specs.Line.{meaning_of}
use Rattle.peer_texts.specs.Reading.{HaveFault, IsTrace}
use Rattle.peer_texts.specs.declared.line.Line.{Line}
use Rattle.peer_trace.specs.Head.{fields_in, mark_in, plain_lines, protocol_in}
use Rattle.peer_trace.specs.Mark.{Mark}
use Rattle.peer_trace.specs.declared.fault.StoredFault.{StoredFault}
use Rattle.peer_trace.specs.declared.fault.StoredFault.TheVariants.{Other, Own, Trace}
use Rattle.peer_trace.specs.declared.protocol.Protocol.{Protocol}

-- what the lines of a text say, each as a line of a trace, the head without its protocol's name or its mark
abbrev pub says : List ℕ → List Line
says text = map meaning_of (plain_lines (fields_in text))

-- the text is a run of this protocol with these events: its head names the protocol, and the lines are those of a trace
pub record HasEventsOf (protocol : Protocol) (text : List ℕ) (events : List Event) : Type 0 where
  pub named : protocol_in text ≡ Some protocol
  pub trace : IsTrace (says text) events

-- no protocol is named but this one
abbrev pub IsNoOther : Protocol → Option Protocol → Type 0
IsNoOther protocol None = Unit {0}
IsNoOther protocol (Some named) = named ≡ protocol

-- the text is no run of this protocol, for this fault: it is one of another protocol, or its lines are none of a trace; a user's
-- own protocol is always another
abbrev pub HasFaultOf : Protocol → List ℕ → StoredFault → Type 0
HasFaultOf protocol text (Other other) = (protocol_in text ≡ Some other) × (other ≢ protocol)
HasFaultOf protocol text Own = is_some (mark_in text) ≡ true
HasFaultOf protocol text (Trace fault) = IsNoOther protocol (protocol_in text) × (mark_in text ≡ None) × HaveFault (says text) fault

-- the text is a run of a user's own protocol with this mark and these events
pub record HasOwnEvents (text : List ℕ) (mark : Mark) (events : List Event) : Type 0 where
  pub marked : mark_in text ≡ Some mark
  pub trace : IsTrace (says text) events

-- the text is no run of a user's own protocol, for this fault
abbrev pub HasOwnFault : List ℕ → StoredFault → Type 0
HasOwnFault text (Other other) = protocol_in text ≡ Some other
HasOwnFault text Own = ⊥
HasOwnFault text (Trace fault) = (protocol_in text ≡ None) × HaveFault (says text) fault
