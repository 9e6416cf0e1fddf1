-- What faults are of: of a stored run, of the writer, of memory.
use Rattle.std.specs.Prelude.{◌≡◌, ℕ, Bool, true, false, List, Result, Ok, Err}
use Rattle.ghs_gr.specs.Text.{IsTooLong}
use Rattle.peer_texts.specs.declared.fault.TraceFault.TheVariants as trace
use Rattle.peer_trace.specs.declared.fault.StoredFault.{StoredFault}
use Rattle.peer_trace.specs.declared.fault.StoredFault.TheVariants.{Other, Own, Trace}
use Rattle.ghs_answers.specs.declared.fault.ServeFault.{ServeFault}
use Rattle.ghs_answers.specs.declared.fault.ServeFault.TheVariants as serve

-- what is stored gives this fault, by the faults that it has as a text of a trace; it may be too long, and the reader and memory may fail for any
abbrev pub IsStoredCause : (StoredFault → Type 0) → List ℕ → ServeFault → Type 0
IsStoredCause Has stored (serve.TraceBadLine line) = (IsTooLong stored → ⊥) × Has (Trace (trace.BadLine line))
IsStoredCause Has stored (serve.TraceNumber line) = (IsTooLong stored → ⊥) × Has (Trace (trace.Number line))
IsStoredCause Has stored (serve.TraceCount said found) = (IsTooLong stored → ⊥) × Has (Trace (trace.Count said found))
IsStoredCause Has stored (serve.TraceOf other) = (IsTooLong stored → ⊥) × Has (Other other)
IsStoredCause Has stored serve.TraceOfOwn = (IsTooLong stored → ⊥) × Has Own
IsStoredCause Has stored serve.TooLong = IsTooLong stored
IsStoredCause Has stored serve.Memory = Unit {0}
IsStoredCause Has stored serve.Read = Unit {0}
IsStoredCause Has stored _ = ⊥

abbrev pub is_write : ServeFault → Bool
is_write (serve.Write written) = true
is_write _ = false

-- the writer failed, or took no byte
abbrev pub IsWrite : Result (Unit {0}) ServeFault → Type 0
IsWrite (Ok u) = ⊥
IsWrite (Err fault) = is_write fault ≡ true

-- the writer failed
abbrev pub IsUnwritten : {E : Type 0} → Result E ServeFault → Type 0
IsUnwritten (Ok e) = ⊥
IsUnwritten (Err fault) = is_write fault ≡ true

abbrev pub is_memory : ServeFault → Bool
is_memory serve.Memory = true
is_memory _ = false
