-- What holds of the texts of stored runs.
use Rattle.std.specs.Prelude.{ℕ, ◌≡◌, ◌≢◌, ◌≤◌, ◌⊎◌, ◌↔◌, true, length, List, None}
use Rattle.std.specs.List.{All}
use Rattle.peer_network.specs.declared.event.Event.{Event}
use Rattle.peer_texts.specs.Laws.{IsNarrow}
use Rattle.peer_texts.specs.Reading.{HasEvents, HasFault}
use Rattle.peer_texts.specs.declared.fault.TraceFault.{TraceFault}
use Rattle.peer_texts.specs.declared.trace.TheConstants.{EVENT_LIMIT}
use Rattle.peer_trace.specs.Head.{mark_in, protocol_in}
use Rattle.peer_trace.specs.Mark.{Mark, is_name, is_sum}
use Rattle.peer_trace.specs.declared.mark.TheConstants.{ENTRY_LIMIT}
use Rattle.peer_trace.specs.Reading.{HasEventsOf, HasFaultOf, HasOwnEvents, HasOwnFault, IsNoOther}
use Rattle.peer_trace.specs.Text.{own_text, stored_text}
use Rattle.peer_trace.specs.declared.fault.StoredFault.{StoredFault}
use Rattle.peer_trace.specs.declared.fault.StoredFault.TheVariants.{Other, Own, Trace}
use Rattle.peer_trace.specs.declared.protocol.Protocol.{Protocol}
use Rattle.peer_trace.specs.declared.protocol.Protocol.TheVariants.{Ghs}

-- the text of a run of this protocol is a run of it with these events, with no others, and for no fault; to who asks for
-- another protocol, a user's own among them, it is one of this
pub record IsStored (protocol : Protocol) (events : List Event) : Type 0 where
  pub has : HasEventsOf protocol (stored_text protocol events) events
  pub alone : (others : List Event) → HasEventsOf protocol (stored_text protocol events) others → others ≡ events
  pub sound : (fault : StoredFault) → HasFaultOf protocol (stored_text protocol events) fault → ⊥
  pub refused : (other : Protocol) → other ≢ protocol → HasFaultOf other (stored_text protocol events) (Other protocol)
  pub refused_own : HasOwnFault (stored_text protocol events) (Other protocol)

abbrev pub ReadsBackOf : Type 0
ReadsBackOf = (protocol : Protocol) (events : List Event) → All IsNarrow events → length events ≤ EVENT_LIMIT → IsStored protocol events

-- of a protocol a text has a list of events or a fault, and of both together only one
pub record IsOneReadingOf (protocol : Protocol) (text : List ℕ) : Type 0 where
  pub some : ((events : List Event) × HasEventsOf protocol text events) ⊎ ((fault : StoredFault) × HasFaultOf protocol text fault)
  pub one_list : (events others : List Event) → HasEventsOf protocol text events → HasEventsOf protocol text others → events ≡ others
  pub one_fault : (fault other : StoredFault) → HasFaultOf protocol text fault → HasFaultOf protocol text other → fault ≡ other
  pub never_both : (events : List Event) (fault : StoredFault) → HasEventsOf protocol text events → HasFaultOf protocol text fault → ⊥

-- a text is a run of one protocol at most
abbrev pub HasOneProtocol : List ℕ → Type 0
HasOneProtocol text =
    (protocol other : Protocol) (events others : List Event) → HasEventsOf protocol text events → HasEventsOf other text others → protocol ≡ other

-- to who asks for a run of GHS a text is what it is as a trace's text, but where it names another protocol
pub record AreReadAsBefore (text : List ℕ) : Type 0 where
  pub events : (events : List Event) → HasEventsOf Ghs text events ↔ HasEvents text events
  pub fault : (fault : TraceFault) →
      HasFaultOf Ghs text (Trace fault) ↔ (IsNoOther Ghs (protocol_in text) × (mark_in text ≡ None) × HasFault text fault)

-- the name is one field of a line, and number and sum are such as a head has
pub record IsMark (mark : Mark) : Type 0 where
  pub name : is_name mark.name ≡ true
  pub few : mark.entries ≤ ENTRY_LIMIT
  pub sum : is_sum mark.sum ≡ true

-- the text of a run of a user's own protocol is one with this mark and these events, with no others, and for no fault; to who asks
-- for any other protocol it is such a run
pub record IsOwnStored (mark : Mark) (events : List Event) : Type 0 where
  pub has : HasOwnEvents (own_text mark events) mark events
  pub alone : (other : Mark) (others : List Event) → HasOwnEvents (own_text mark events) other others → (other ≡ mark) × (others ≡ events)
  pub sound : (fault : StoredFault) → HasOwnFault (own_text mark events) fault → ⊥
  pub refused : (protocol : Protocol) → HasFaultOf protocol (own_text mark events) Own

abbrev pub ReadsBackOwn : Type 0
ReadsBackOwn = (mark : Mark) (events : List Event) → IsMark mark → All IsNarrow events → length events ≤ EVENT_LIMIT → IsOwnStored mark events

-- a text is a run of a user's own protocol, with one mark and one list of events, or is none for one fault
pub record IsOneOwnReading (text : List ℕ) : Type 0 where
  pub some : ((mark : Mark) × (events : List Event) × HasOwnEvents text mark events) ⊎ ((fault : StoredFault) × HasOwnFault text fault)
  pub one_mark : (mark other : Mark) (events others : List Event) → HasOwnEvents text mark events → HasOwnEvents text other others → mark ≡ other
  pub one_list : (mark other : Mark) (events others : List Event) → HasOwnEvents text mark events → HasOwnEvents text other others → events ≡ others
  pub one_fault : (fault other : StoredFault) → HasOwnFault text fault → HasOwnFault text other → fault ≡ other
  pub never_both : (mark : Mark) (events : List Event) (fault : StoredFault) → HasOwnEvents text mark events → HasOwnFault text fault → ⊥
