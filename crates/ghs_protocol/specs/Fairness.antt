-- Fairness: a queue that holds a message that doesn't wait isn't passed over for ever. Each run in which that is so comes to its end, and how
-- long it is at most.
use Rattle.std.specs.Prelude.{◌≡◌, ◌≢◌, ◌⊎◌, ℕ, suc, ◌+◌, ◌*◌, ◌≤◌, Bool, true, Option, Some, None, List, [], ◌∷◌, ◌++◌, length}
use Rattle.std.specs.List.{All}
use Rattle.ghs_graph.specs.Bound.{IsBound}
use Rattle.ghs_graph.specs.Graph.{Shape}
use Rattle.ghs_node.specs.declared.message.Message.{Message}
use Rattle.ghs_node.specs.declared.message.Phase.TheVariants.{Sleeping}
use Rattle.peer_network.specs.declared.event.Event.{Event}
use Rattle.peer_network.specs.declared.event.Event.TheVariants.{Take}
use Rattle.peer_network.specs.Network.{Network, network_of, At, far, InNetwork}
use Rattle.peer_network.specs.Wakes.{AllMayWake}
use Rattle.ghs_protocol.specs.Net.{Net}
use Rattle.ghs_protocol.specs.Run.{run}
use Rattle.ghs_protocol.specs.Marks.{HasEnded}
use Rattle.ghs_protocol.specs.Ledger.{in_all}
use Rattle.ghs_protocol.specs.Steps.{Happens}
use Rattle.ghs_protocol.specs.Laws.{IsNetOf}
use Rattle.ghs_protocol.specs.Living.{Waits, GoesOn, IsTake, Stands, StandsTwice, Comes}

-- where a message waits, one that doesn't can be had there by two Takes at most, whether or not a core node has halted
abbrev pub NoMessageIsStuck : Type 0
NoMessageIsStuck =
    (g : Shape) (w : Net) → IsNetOf g w →
    (S : ℕ → Bool) → ((v p : ℕ) → At (network_of g) v p → S v ≡ true → S (far (network_of g) v p) ≡ true) →
    (v p : ℕ) → At (network_of g) v p → S v ≡ true →
    w.queue v p ≢ [] →
    GoesOn (network_of g) w S

-- the queue holds a message that doesn't wait
pub record HasWork (w : Net) (v p : ℕ) : Type 0 where
  pub before : List Message
  pub message : Message
  pub behind : List Message
  pub queue : w.queue v p ≡ before ++ message ∷ behind
  pub goes : Waits (w.node v) p message → ⊥

-- in a lap each queue that holds such a message at its beginning is taken from, in any order, and anything else may happen too
abbrev pub IsLap : Network → Net → List Event → Type 0
IsLap g w es = (v p : ℕ) → At g v p → HasWork w v p → Stands (Take v p) es

-- in a full lap each such message that stands first or second is taken
pub record IsFullLap (g : Network) (w : Net) (es : List Event) : Type 0 where
  pub firsts : (v p : ℕ) → At g v p → (m : Message) (ms : List Message) → w.queue v p ≡ m ∷ ms → (Waits (w.node v) p m → ⊥) → Stands (Take v p) es
  pub seconds : (v p : ℕ) →
      At g v p →
      (m n : Message) (ms : List Message) → w.queue v p ≡ m ∷ n ∷ ms →
      (Waits (w.node v) p n → ⊥) →
      StandsTwice (Take v p) es

-- whoever takes from each queue in which a message waits makes a lap
abbrev pub AllTakenIsLap : Type 0
AllTakenIsLap = (g : Network) (w : Net) (es : List Event) → ((v p : ℕ) → At g v p → w.queue v p ≢ [] → Stands (Take v p) es) → IsLap g w es

-- a lap of at most two Takes for each link, which takes from each queue in which a message waits
pub record Lap (g : Shape) (w : Net) : Type 0 where
  pub events : List Event
  pub takes : All IsTake events
  pub few : length events ≤ 2 * length g.keys
  pub next : Net
  pub leads : run (network_of g) events w ≡ Some next
  pub taken : (v p : ℕ) → At (network_of g) v p → w.queue v p ≢ [] → Stands (Take v p) events

-- there is one from each net of a run
abbrev pub LapsAre : Type 0
LapsAre = (g : Shape) (w : Net) → IsNetOf g w → Lap g w

-- a message more is consumed, or a node has woken
pub data GotOn (g : Network) (w x : Net) : Type 0 where
  Consumes : suc (in_all w.consumed) ≤ in_all x.consumed → GotOn g w x
  Wakes : (v : ℕ) → InNetwork g v → (w.node v).head.phase ≡ Sleeping → (x.node v).head.phase ≢ Sleeping → GotOn g w x

-- two laps in a row get on, the first of which isn't empty; and a full lap that isn't empty does alone
abbrev pub TwoLapsGetOn : Type 0
TwoLapsGetOn =
    (g : Shape) (w x y : Net) (es fs : List Event) → IsNetOf g w → es ≢ [] →
    IsLap (network_of g) w es →
    run (network_of g) es w ≡ Some x →
    IsLap (network_of g) x fs →
    run (network_of g) fs x ≡ Some y →
    GotOn (network_of g) w y

abbrev pub FullLapGetsOn : Type 0
FullLapGetsOn =
    (g : Shape) (w x : Net) (es : List Event) → IsNetOf g w → es ≢ [] →
    IsFullLap (network_of g) w es →
    run (network_of g) es w ≡ Some x →
    GotOn (network_of g) w x

-- a run cut into pieces, none of them empty, of each of which P holds at the net where it begins
pub data IsCut (g : Network) (P : Net → List Event → Type 0) : Net → List (List Event) → Type 0 where
  Ends : {w : Net} → IsCut g P w []
  Goes : {w x : Net} {es : List Event} {ss : List (List Event)} → es ≢ [] → P w es → run g es w ≡ Some x → IsCut g P x ss → IsCut g P w (es ∷ ss)

-- in whatever way a run is cut into laps, there are at most twice as many as the bound on messages and the nodes together
abbrev pub LapsAreFew : Type 0
LapsAreFew =
    (g : Shape) (w : Net) → IsNetOf g w →
    (b : ℕ) → IsBound g.nodes (length g.keys) b →
    (ss : List (List Event)) → IsCut (network_of g) (IsLap (network_of g)) w ss →
    length ss ≤ 2 * (b + g.nodes)

-- and half as many full laps
abbrev pub FullLapsAreFew : Type 0
FullLapsAreFew =
    (g : Shape) (w : Net) → IsNetOf g w →
    (b : ℕ) → IsBound g.nodes (length g.keys) b →
    (ss : List (List Event)) → IsCut (network_of g) (IsFullLap (network_of g)) w ss →
    length ss ≤ b + g.nodes

-- of each f events in a row P holds at the net where they begin
abbrev pub IsServed : Network → (Net → List Event → Type 0) → ℕ → Net → List Event → Type 0
IsServed g P f w es =
    (before window after : List Event) (x : Net) → es ≡ before ++ window ++ after → length window ≡ f → run g before w ≡ Some x → P x window

-- a run in which no queue that holds a message that doesn't wait is passed over for f events in a row
abbrev pub ServedRunsAreShort : Type 0
ServedRunsAreShort =
    (g : Shape) (w : Net) → IsNetOf g w →
    (b : ℕ) → IsBound g.nodes (length g.keys) b →
    (f : ℕ) → 1 ≤ f →
    (es : List Event) (w' : Net) → run (network_of g) es w ≡ Some w' →
    IsServed (network_of g) (IsLap (network_of g)) f w es →
    length es ≤ (b + g.nodes) * (2 * f)

-- and one in which no such message, first or second in its queue, isn't taken for f events
abbrev pub PromptRunsAreShort : Type 0
PromptRunsAreShort =
    (g : Shape) (w : Net) → IsNetOf g w →
    (b : ℕ) → IsBound g.nodes (length g.keys) b →
    (f : ℕ) → 1 ≤ f →
    (es : List Event) (w' : Net) → run (network_of g) es w ≡ Some w' →
    IsServed (network_of g) (IsFullLap (network_of g)) f w es →
    length es ≤ (b + g.nodes) * f

-- in a single round each queue has its turn once at least, in any order, and between them may be any other events
abbrev pub IsSingleRound : Network → List Event → Type 0
IsSingleRound g es = (v p : ℕ) → At g v p → Stands (Take v p) es

-- of these twice as many are enough as of rounds in which each queue has two turns
abbrev pub SingleRoundsEnd : Type 0
SingleRoundsEnd =
    (g : Shape) (w : Net) → IsNetOf g w →
    (b : ℕ) → IsBound g.nodes (length g.keys) b →
    (rs : List (List Event)) → All (IsSingleRound (network_of g)) rs →
    2 * (b + g.nodes) ≤ length rs →
    Comes (network_of g) w rs

-- what happens at a moment: an event, or nothing
pub data IsMoment (g : Network) (w : Net) : Option Event → Net → Type 0 where
  Happened : {e : Event} {x : Net} → Happens g w e x → IsMoment g w (Some e) x
  Idle : IsMoment g w None w

-- a course of a network, without end: its nets by number, and what happens from each to the next
pub record IsCourse (g : Network) (net : ℕ → Net) (event : ℕ → Option Event) : Type 0 where
  pub moment : (i : ℕ) → IsMoment g (net i) (event i) (net (suc i))

-- weak fairness, or justice: a queue that holds a message that doesn't wait is taken from then or later, or comes to hold none such
abbrev pub IsWeaklyFair : Network → (ℕ → Net) → (ℕ → Option Event) → Type 0
IsWeaklyFair g net event =
    (i v p : ℕ) → At g v p → HasWork (net i) v p → (j : ℕ) × (i ≤ j) × ((event j ≡ Some (Take v p)) ⊎ (HasWork (net j) v p → ⊥))

-- whoever takes then or later from each queue in which a message waits is fair
abbrev pub AllTakenIsFair : Type 0
AllTakenIsFair =
    (g : Network) (net : ℕ → Net) (event : ℕ → Option Event) →
    ((i v p : ℕ) → At g v p → (net i).queue v p ≢ [] → (j : ℕ) × (i ≤ j) × (event j ≡ Some (Take v p))) →
    IsWeaklyFair g net event

-- each node that may wake by itself is awake at some moment
abbrev pub WakesAll : (ℕ → Bool) → Shape → (ℕ → Net) → Type 0
WakesAll may g net = (v : ℕ) → 1 ≤ v → v ≤ g.nodes → may v ≡ true → (i : ℕ) × (((net i).node v).head.phase ≢ Sleeping)

-- in no fair course something happens at each moment: no fair run goes on for ever
abbrev pub NoFairRunIsEndless : Type 0
NoFairRunIsEndless =
    (g : Shape) (net : ℕ → Net) (event : ℕ → Option Event) → IsNetOf g (net 0) →
    IsCourse (network_of g) net event →
    IsWeaklyFair (network_of g) net event →
    ((i : ℕ) → event i ≢ None) →
    ⊥

-- there is a moment at which the run has ended and nothing waits, and from which on nothing happens
pub record ComesToRest (g : Shape) (net : ℕ → Net) : Type 0 where
  pub moment : ℕ
  pub ended : HasEnded g (net moment)
  pub silent : (v p : ℕ) → At (network_of g) v p → (net moment).queue v p ≡ []
  pub still : (i : ℕ) → moment ≤ i → net i ≡ net moment

-- each fair course comes to its end, if each component has a node that wakes by itself
abbrev pub FairCoursesEnd : Type 0
FairCoursesEnd =
    (g : Shape) (may : ℕ → Bool) (net : ℕ → Net) (event : ℕ → Option Event) → IsNetOf g (net 0) →
    AllMayWake may g →
    IsCourse (network_of g) net event →
    IsWeaklyFair (network_of g) net event →
    WakesAll may g net →
    ComesToRest g net

-- such a course from the net w on
pub record FairCourse (g : Shape) (may : ℕ → Bool) (w : Net) : Type 0 where
  pub net : ℕ → Net
  pub event : ℕ → Option Event
  pub start : net 0 ≡ w
  pub course : IsCourse (network_of g) net event
  pub fair : IsWeaklyFair (network_of g) net event
  pub wakes : WakesAll may g net

-- there is one from each net of a run
abbrev pub FairCoursesAre : Type 0
FairCoursesAre = (g : Shape) (may : ℕ → Bool) (w : Net) → IsNetOf g w → FairCourse g may w
