-- The page of a stored run by any protocol.
use Rattle.std.specs.Prelude.{ℕ, List}
use Rattle.ghs_graph.specs.Graph.{Shape}
use Rattle.peer_page.specs.Limits.{IsTooLarge}
use Rattle.peer_machine.specs.Rules.{Rules}
use Rattle.peer_machine.specs.Run.{IsRunUnder}
use Rattle.peer_network.specs.declared.event.Event.{Event}
use Rattle.peer_network.specs.Network.{network_of}
use Rattle.peer_network.specs.Wakes.{may_wake}
use Rattle.peer_runs.specs.Replays.{IsFirstUnlawful}
use Rattle.ghs_commands.specs.declared.job.StoredViewOptions.{StoredViewOptions}
use Rattle.ghs_answers.specs.declared.fault.ServeFault.{ServeFault}
use Rattle.ghs_answers.specs.declared.fault.ServeFault.TheVariants as serve

-- the rules of a protocol
module _ {S M : Type 0} (r : Rules S M) where
  -- why events have no page: the first that isn't lawful, or a page that would be too large
  abbrev pub HasNoStoredView : StoredViewOptions → Shape → List Event → ServeFault → Type 0
  HasNoStoredView o g events (serve.NotLawful k) = IsFirstUnlawful r g o.wake events k
  HasNoStoredView o g events serve.PageTooLarge = IsRunUnder r (may_wake g o.wake) (network_of g) events × IsTooLarge g events o.to
  HasNoStoredView o g events serve.Memory = Unit {0}
  HasNoStoredView o g events _ = ⊥

  -- what the page of some events is, which opens before one of them and ends with another
  module _ (is_page : Shape → List Event → ℕ → ℕ → List ℕ → Type 0) where
    -- the page of events that are a run of a graph; it needn't have ended
    pub record IsStoredView (o : StoredViewOptions) (g : Shape) (events : List Event) (output : List ℕ) : Type 0 where
      pub run : IsRunUnder r (may_wake g o.wake) (network_of g) events
      pub page : is_page g events o.from o.to output
