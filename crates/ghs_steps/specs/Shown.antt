-- Why the steps of a trace aren't shown, or not to their end.
use Rattle.std.specs.Prelude.{◌≡◌, ◌⊎◌, ℕ, Option, List}
use Rattle.ghs_graph.specs.Graph.{Shape}
use Rattle.peer_network.specs.declared.event.Event.{Event}
use Rattle.peer_network.specs.Network.{network_of}
use Rattle.ghs_protocol.specs.Run.{IsRunUnder}
use Rattle.peer_network.specs.declared.wake_set.WakeSet.{WakeSet}
use Rattle.peer_network.specs.Wakes.{may_wake}
use Rattle.ghs_sched.specs.Replays.{IsFirstUnlawful}
use Rattle.peer_steps.specs.declared.fault.StepsFault.{StepsFault}
use Rattle.peer_steps.specs.declared.fault.StepsFault.TheVariants.{NotLawful, Memory, Write}
use Rattle.ghs_report.specs.declared.portions.WriteFault.TheVariants as writes
use Rattle.ghs_report.specs.Written.{IsFront}

-- an event isn't lawful, and nothing has gone out; or the events are a run, and a front of its lines has; where memory runs out,
-- one of nothing or that front
abbrev pub CantShow : Shape → WakeSet → List Event → List ℕ → Option (List ℕ) → Option (List ℕ) → StepsFault → Type 0
CantShow g wake es text old new (NotLawful k) = IsFirstUnlawful g wake es k × (new ≡ old)
CantShow g wake es text old new Memory = (new ≡ old) ⊎ (IsRunUnder (may_wake g wake) (network_of g) es × IsFront old new text writes.Memory)
CantShow g wake es text old new (Write k) = IsRunUnder (may_wake g wake) (network_of g) es × IsFront old new text (writes.Write k)
