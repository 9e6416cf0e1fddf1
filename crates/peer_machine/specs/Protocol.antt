-- What a protocol promises of its rules, in every run of every graph.
use Rattle.std.specs.Prelude.{◌≡◌, ℕ, ◌<◌, ◌≤◌, ◌^◌, true, false, IsSome}
use Rattle.ghs_graph.specs.Graph.{Shape, IsGraph}
use Rattle.peer_network.specs.declared.event.Event.{Event}
use Rattle.peer_network.specs.Network.{network_of}
use Rattle.peer_machine.specs.Rules.{Rules}
use Rattle.peer_machine.specs.Net.{Net, event_node, is_lawful, effect}
use Rattle.peer_machine.specs.Run.{IsNetOf}
use Rattle.peer_machine.specs.Ledger.{in_all}
use Rattle.peer_machine.specs.Steps.{Happens}

-- each lawful event has a rule
abbrev pub HasRules : {S M : Type 0} → Rules S M → Type 0
HasRules {S} {M} r =
    (g : Shape) (w : Net S M) → IsNetOf r g w → (e : Event) → is_lawful r (network_of g) w e ≡ true → IsSome (effect r (network_of g) w e)

-- each event leaves its node awake
abbrev pub StaysAwake : {S M : Type 0} → Rules S M → Type 0
StaysAwake {S} {M} r =
    (g : Shape) (w w' : Net S M) (e : Event) → IsNetOf r g w → Happens r (network_of g) w e w' → r.is_asleep (w'.node (event_node e)) ≡ false

-- no run sends more messages than the bound
abbrev pub IsBoundedBy : {S M : Type 0} → Rules S M → (Shape → ℕ) → Type 0
IsBoundedBy {S} {M} r bound = (g : Shape) (w : Net S M) → IsNetOf r g w → in_all r w.sent ≤ bound g

-- the bound of each graph is below 2^64, so that counts fit
abbrev pub FitsGraphs : (Shape → ℕ) → Type 0
FitsGraphs bound = (g : Shape) → IsGraph g → bound g < 2 ^ 64
