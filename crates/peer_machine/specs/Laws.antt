-- What holds under any rules, in every run of every graph, as one fact a law.
use Rattle.std.specs.Prelude.{◌≡◌, ◌≢◌, ◌↔◌, ℕ, ◌+◌, ◌≤◌, List, ◌∷◌, ◌++◌, length, Some}
use Rattle.ghs_graph.specs.Graph.{Shape, IsGraph}
use Rattle.peer_network.specs.declared.event.Event.{Event}
use Rattle.peer_network.specs.declared.event.Event.TheVariants.{Take}
use Rattle.peer_network.specs.Network.{Network, network_of, far, far_port}
use Rattle.peer_network.specs.Events.{takes_in}
use Rattle.peer_machine.specs.declared.work.Work.TheVariants.{Deliver}
use Rattle.peer_machine.specs.Rules.{Rules, HasKinds, NeverDefers}
use Rattle.peer_machine.specs.Net.{Net, event_node, left_of, happens}
use Rattle.peer_machine.specs.Run.{IsAfter, IsNetOf, IsLater}
use Rattle.peer_machine.specs.Ledger.{IsBalanced, IsBalancedInAll, in_all}
use Rattle.peer_machine.specs.Steps.{Happens}
use Rattle.peer_machine.specs.Protocol.{StaysAwake}

module _ {S M : Type 0} (r : Rules S M) where
  -- the machine's step, as a relation
  abbrev pub EventsHappenSo : Type 0
  EventsHappenSo = (g : Network) (w w' : Net S M) (e : Event) → ((happens r g w e ≡ Some w') ↔ Happens r g w e w')

  -- of each kind, what was sent was consumed or waits
  abbrev pub KindsBalance : Type 0
  KindsBalance = (g : Shape) (w : Net S M) → IsNetOf r g w → IsBalanced r (network_of g) w

  -- the same over all kinds
  abbrev pub LedgerBalances : Type 0
  LedgerBalances = HasKinds r → (g : Shape) (w : Net S M) → IsNetOf r g w → IsBalancedInAll r (network_of g) w

  -- no count ever falls
  abbrev pub CountsStay : Type 0
  CountsStay =
      (g : Shape) (w w' : Net S M) → IsLater r g w w' → (k : ℕ) →
      (w.sent k ≤ w'.sent k) × (w.consumed k ≤ w'.consumed k) × (w.deferred ≤ w'.deferred)

  -- each take consumes one message or defers it, and a wake none
  abbrev pub TakesAreCounted : Type 0
  TakesAreCounted =
      HasKinds r → (g : Network) (es : List Event) (w : Net S M) → IsAfter r g es w → in_all r w.consumed + w.deferred ≡ takes_in es

  -- a take leaves in its queue what waited behind the message, and behind that the message itself, if it was deferred
  abbrev pub DeferredGoLast : Type 0
  DeferredGoLast =
      (g : Shape) (w w' : Net S M) (v p : ℕ) (m : M) (ms : List M) → IsGraph g → Happens r (network_of g) w (Take v p) w' →
      w.queue v p ≡ m ∷ ms → w'.queue v p ≡ left_of (r.defers (w.node v) (Deliver p m)) m ms

  -- where no message is ever deferred, none is counted as deferred, and a run takes none twice
  abbrev pub TakenOnce : Type 0
  TakenOnce =
      NeverDefers r → HasKinds r → (g : Shape) (es : List Event) (w : Net S M) → IsGraph g → IsAfter r (network_of g) es w →
      ◌≡◌ {A = ℕ} w.deferred 0 × (takes_in es ≤ in_all r w.sent)

  -- and where each event leaves its node awake, a run has at most as many events as messages sent and nodes together
  abbrev pub EventsAreFew : Type 0
  EventsAreFew =
      NeverDefers r → StaysAwake r → HasKinds r → (g : Shape) (es : List Event) (w : Net S M) → IsGraph g → IsAfter r (network_of g) es w →
      length es ≤ in_all r w.sent + g.nodes

  -- an event changes no node but its own
  abbrev pub OthersStay : Type 0
  OthersStay = (g : Network) (w w' : Net S M) (e : Event) → Happens r g w e w' → (u : ℕ) → u ≢ event_node e → w'.node u ≡ w.node u

  -- and no queue of another node but those at the far ends of its ports, to which it appends
  abbrev pub OthersQueue : Type 0
  OthersQueue =
      (g : Network) (w w' : Net S M) (e : Event) → Happens r g w e w' → (u q : ℕ) → u ≢ event_node e →
      (ms : List M) × (w'.queue u q ≡ w.queue u q ++ ms) ×
      (((i : ℕ) → far g (event_node e) i ≡ u → far_port g (event_node e) i ≡ q → ⊥) → w'.queue u q ≡ w.queue u q)
