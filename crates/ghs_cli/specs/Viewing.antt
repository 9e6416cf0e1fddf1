-- Pages of runs of a graph.
use Rattle.std.specs.Prelude.{ℕ, List, Option, Some, None}
use Rattle.ghs_graph.specs.Graph.{Shape}
use Rattle.ghs_picking.specs.Picking.{IsPickedBy}
use Rattle.peer_network.specs.declared.event.Event.{Event}
use Rattle.peer_network.specs.Network.{network_of}
use Rattle.ghs_protocol.specs.Run.{IsRunUnder}
use Rattle.ghs_sched.specs.Replays.{IsFirstUnlawful}
use Rattle.ghs_view.specs.PairPage.{IsPairPage}
use Rattle.ghs_view.specs.RunPage.{IsRunPage}
use Rattle.peer_page.specs.Limits.{IsPairTooLarge, IsTooLarge}
use Rattle.peer_network.specs.Wakes.{may_wake}
use Rattle.ghs_answers.specs.declared.fault.ServeFault.{ServeFault}
use Rattle.ghs_answers.specs.declared.fault.ServeFault.TheVariants as serve
use Rattle.ghs_commands.specs.declared.job.StoredViewOptions.{StoredViewOptions}
use Rattle.ghs_commands.specs.declared.job.ViewOptions.{ViewOptions}

-- the page of the run that a seed picks of a graph, to its end or to its last turn
pub record IsSeedView (o : ViewOptions) (g : Shape) (output : List ℕ) : Type 0 where
  pub events : List Event
  pub picked : IsPickedBy o.schedule_kind o.seed o.wake o.turns g events
  pub page : IsRunPage g events o.from o.to output

-- the page of two such runs, that of its seed and that of another one
pub record IsPairView (o : ViewOptions) (beside : ℕ) (g : Shape) (output : List ℕ) : Type 0 where
  pub first : List Event
  pub second : List Event
  pub picked : IsPickedBy o.schedule_kind o.seed o.wake o.turns g first
  pub picked_beside : IsPickedBy o.schedule_kind beside o.wake o.turns g second
  pub page : IsPairPage g first second o.from o.to output

-- the page of one of them, or with another seed of two
abbrev pub IsViewBeside : Option ℕ → ViewOptions → Shape → List ℕ → Type 0
IsViewBeside None o g output = IsSeedView o g output
IsViewBeside (Some beside) o g output = IsPairView o beside g output

abbrev pub IsView : ViewOptions → Shape → List ℕ → Type 0
IsView o g output = IsViewBeside o.beside o g output

-- a run that a page can't take, or two of which it can't take one
pub record IsLongSeed (o : ViewOptions) (g : Shape) : Type 0 where
  pub events : List Event
  pub picked : IsPickedBy o.schedule_kind o.seed o.wake o.turns g events
  pub large : IsTooLarge g events o.to

pub record IsLongPair (o : ViewOptions) (beside : ℕ) (g : Shape) : Type 0 where
  pub first : List Event
  pub second : List Event
  pub picked : IsPickedBy o.schedule_kind o.seed o.wake o.turns g first
  pub picked_beside : IsPickedBy o.schedule_kind beside o.wake o.turns g second
  pub large : IsPairTooLarge g first second o.to

-- why there is no page of one run
abbrev pub HasNoSeedView : ViewOptions → Shape → ServeFault → Type 0
HasNoSeedView o g serve.PageTooLarge = IsLongSeed o g
HasNoSeedView o g serve.Memory = Unit {0}
HasNoSeedView o g _ = ⊥

-- why there is none of two
abbrev pub HasNoPairView : ViewOptions → ℕ → Shape → ServeFault → Type 0
HasNoPairView o beside g serve.PageTooLarge = IsLongPair o beside g
HasNoPairView o beside g serve.Memory = Unit {0}
HasNoPairView o beside g _ = ⊥

-- why there is none of what options ask for
abbrev pub HasNoViewBeside : Option ℕ → ViewOptions → Shape → ServeFault → Type 0
HasNoViewBeside None o g fault = HasNoSeedView o g fault
HasNoViewBeside (Some beside) o g fault = HasNoPairView o beside g fault

abbrev pub HasNoView : ViewOptions → Shape → ServeFault → Type 0
HasNoView o g fault = HasNoViewBeside o.beside o g fault

-- the page of events that are a run of a graph; it needn't have ended
pub record IsStoredView (o : StoredViewOptions) (g : Shape) (events : List Event) (output : List ℕ) : Type 0 where
  pub run : IsRunUnder (may_wake g o.wake) (network_of g) events
  pub page : IsRunPage g events o.from o.to output

-- why there is none: the first event that isn't lawful, or a page that would be too large
abbrev pub HasNoStoredView : StoredViewOptions → Shape → List Event → ServeFault → Type 0
HasNoStoredView o g events (serve.NotLawful k) = IsFirstUnlawful g o.wake events k
HasNoStoredView o g events serve.PageTooLarge = IsRunUnder (may_wake g o.wake) (network_of g) events × IsTooLarge g events o.to
HasNoStoredView o g events serve.Memory = Unit {0}
HasNoStoredView o g events _ = ⊥
