-- What is told of the steps of a stored run.
use Rattle.std.specs.Prelude.{◌≡◌, ◌⊎◌, ℕ, ◌<◌, ◌≤◌, List, length, Option, Result, Ok, Err}
use Rattle.ghs_commands.specs.declared.job.StepsOptions.{StepsOptions}
use Rattle.ghs_graph.specs.Graph.{Shape}
use Rattle.ghs_report.specs.Writing.{HasWritten}
use Rattle.peer_machine.specs.Rules.{Rules}
use Rattle.peer_machine.specs.Run.{IsRunUnder}
use Rattle.peer_network.specs.Network.{network_of}
use Rattle.peer_network.specs.Wakes.{may_wake}
use Rattle.peer_network.specs.declared.event.Event.{Event}
use Rattle.peer_steps.specs.Lines.{lines}
use Rattle.peer_words.specs.Words.{Words}
use Rattle.ghs_answers.specs.declared.fault.ServeFault.{ServeFault}
use Rattle.ghs_answers.specs.declared.fault.ServeFault.TheVariants as serve

-- why the steps of events aren't told: the first event that isn't lawful, by its number; memory may run out anywhere
abbrev pub CantTell : (ℕ → Type 0) → ServeFault → Type 0
CantTell is_unlawful (serve.NotLawful k) = is_unlawful k
CantTell is_unlawful serve.Memory = Unit {0}
CantTell is_unlawful _ = ⊥

-- what has gone out: all lines that are told, or only the first bytes, where a write failed or memory ran out
abbrev pub HasTold : (List ℕ → Type 0) → (ℕ → Type 0) → Option (List ℕ) → Option (List ℕ) → Result (Unit {0}) ServeFault → Type 0
HasTold tells is_unlawful old new (Ok u) = (output : List ℕ) × tells output × HasWritten old new output (length output)
HasTold tells is_unlawful old new (Err (serve.Write k)) =
    (output : List ℕ) × tells output × (k < length output) × HasWritten old new output k
HasTold tells is_unlawful old new (Err serve.Memory) =
    (new ≡ old) ⊎ ((output : List ℕ) × tells output × ((k : ℕ) × (k ≤ length output) × HasWritten old new output k))
HasTold tells is_unlawful old new (Err fault) = CantTell is_unlawful fault

-- the rules of a protocol
module _ {S M : Type 0} (r : Rules S M) where
  -- events that are a run of the graph, and the output is the lines of those that are chosen, in the protocol's words
  pub record AreSteps (words : Words S M) (o : StepsOptions) (g : Shape) (events : List Event) (output : List ℕ) : Type 0 where
    pub run : IsRunUnder r (may_wake g o.wake) (network_of g) events
    pub printed : output ≡ lines r words o.form g o.choice events
