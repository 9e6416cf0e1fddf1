-- What holds of the texts of traces.
use Rattle.std.specs.Prelude.{ℕ, ◌≡◌, ◌≤◌, ◌⊎◌, length, List}
use Rattle.std.specs.List.{All}
use Rattle.peer_network.specs.declared.event.Event.{Event}
use Rattle.peer_network.specs.declared.event.Event.TheVariants.{Wake, Take}
use Rattle.peer_texts.specs.Reading.{HasEvents, HasFault}
use Rattle.peer_texts.specs.Text.{trace_text}
use Rattle.peer_texts.specs.declared.fault.TraceFault.{TraceFault}
use Rattle.peer_texts.specs.declared.trace.TheConstants.{EVENT_LIMIT}

-- node and port are of 32 bits
abbrev pub IsNarrow : Event → Type 0
IsNarrow (Wake v) = v ≤ 4294967295
IsNarrow (Take v port) = (v ≤ 4294967295) × (port ≤ 4294967295)

-- a list within the limits is read back from its text: the text has this list, no other list and no fault
pub record IsReadBack (events : List Event) : Type 0 where
  pub has : HasEvents (trace_text events) events
  pub alone : (other : List Event) → HasEvents (trace_text events) other → other ≡ events
  pub sound : (fault : TraceFault) → HasFault (trace_text events) fault → ⊥

abbrev pub ReadsBack : List Event → Type 0
ReadsBack events = All IsNarrow events → length events ≤ EVENT_LIMIT → IsReadBack events

-- a text has a list of events or a fault, and of both together only one
pub record IsOneReading (text : List ℕ) : Type 0 where
  pub some : ((events : List Event) × HasEvents text events) ⊎ ((fault : TraceFault) × HasFault text fault)
  pub one_list : (events other : List Event) → HasEvents text events → HasEvents text other → events ≡ other
  pub one_fault : (fault other : TraceFault) → HasFault text fault → HasFault text other → fault ≡ other
  pub never_both : (events : List Event) (fault : TraceFault) → HasEvents text events → HasFault text fault → ⊥
