-- Why the steps of a trace aren't shown, or not to their end.
use Rattle.std.specs.Prelude.{◌≡◌, ◌⊎◌, ℕ, Bool, false, true, Option, List}
use Rattle.ghs_graph.specs.Graph.{Shape}
use Rattle.peer_network.specs.declared.event.Event.{Event}
use Rattle.peer_network.specs.Network.{network_of}
use Rattle.peer_network.specs.declared.wake_set.WakeSet.{WakeSet}
use Rattle.peer_network.specs.Wakes.{may_wake}
use Rattle.ghs_report.specs.declared.portions.WriteFault.TheVariants as writes
use Rattle.ghs_report.specs.Written.{IsFront}
use Rattle.peer_machine.specs.Rules.{Rules}
use Rattle.peer_machine.specs.Run.{IsRunUnder}
use Rattle.peer_runs.specs.Replays.{IsFirstUnlawful}
use Rattle.peer_steps.specs.declared.fault.StepsFault.{StepsFault}
use Rattle.peer_steps.specs.declared.fault.StepsFault.TheVariants.{NotLawful, Memory, Write}

-- an event isn't lawful, and nothing has gone out; or the events are a run, and a front of its lines has; where memory runs out,
-- one of nothing or that front
abbrev pub CantShow : {S M : Type 0} → Rules S M → Shape → WakeSet → List Event → List ℕ → Option (List ℕ) → Option (List ℕ) → StepsFault → Type 0
CantShow r g wake es text old new (NotLawful k) = IsFirstUnlawful r g wake es k × (new ≡ old)
CantShow r g wake es text old new Memory =
    (new ≡ old) ⊎ (IsRunUnder r (may_wake g wake) (network_of g) es × IsFront old new text writes.Memory)
CantShow r g wake es text old new (Write k) =
    IsRunUnder r (may_wake g wake) (network_of g) es × IsFront old new text (writes.Write k)

-- the run is at fault
abbrev pub is_unlawful : StepsFault → Bool
is_unlawful (NotLawful k) = true
is_unlawful _ = false

-- the writer failed, or took no byte
abbrev pub is_write : StepsFault → Bool
is_write (Write k) = true
is_write _ = false
