-- Rules under which each node pays for what it does, from a budget.
use Rattle.std.specs.Prelude.{◌≡◌, ℕ, ◌+◌, ◌*◌, ◌<◌, ◌≤◌, true, Some, List, length}
use Rattle.ghs_graph.specs.declared.port.Port.{Port}
use Rattle.ghs_graph.specs.Graph.{Shape, IsGraph}
use Rattle.peer_network.specs.declared.event.Event.{Event}
use Rattle.peer_network.specs.Network.{network_of}
use Rattle.peer_machine.specs.declared.work.Work.{Work}
use Rattle.peer_machine.specs.Rules.{Rules, Outcome, HasKinds}
use Rattle.peer_machine.specs.Net.{Net}
use Rattle.peer_machine.specs.Run.{IsAfter}
use Rattle.peer_machine.specs.Protocol.{IsBoundedBy, StaysAwake}

-- each node opens with a budget of at most `most`, and each message that it sends costs one of it
pub record PaysFrom {S M : Type 0} (r : Rules S M) (budget : S → ℕ) (most : ℕ) : Type 0 where
  pub opens : (v : ℕ) (ports : List Port) → budget (r.opening v ports) ≤ most
  pub pays : (n : S) (k : Work M) (o : Outcome S M) → r.reaction n k ≡ Some o → length o.sends + budget o.state ≤ budget n

module _ {S M : Type 0} (r : Rules S M) where
  -- and so does each that it defers
  abbrev pub DefersFrom : (S → ℕ) → Type 0
  DefersFrom budget =
      (n : S) (k : Work M) (o : Outcome S M) → r.reaction n k ≡ Some o → r.defers n k ≡ true → length o.sends + budget o.state < budget n

  -- where sends cost, no run sends more than so many messages for each node
  abbrev pub SendsWithin : Type 0
  SendsWithin = HasKinds r → (budget : S → ℕ) (most : ℕ) → PaysFrom r budget most → IsBoundedBy r (λ g. g.nodes * most)

  -- where deferrals do too, and each event leaves its node awake, no run has more events than these and the nodes
  abbrev pub EndsWithin : Type 0
  EndsWithin =
      HasKinds r → StaysAwake r → (budget : S → ℕ) (most : ℕ) → PaysFrom r budget most → DefersFrom budget → (g : Shape) → IsGraph g →
      (es : List Event) (w : Net S M) → IsAfter r (network_of g) es w → length es ≤ g.nodes * most + g.nodes
