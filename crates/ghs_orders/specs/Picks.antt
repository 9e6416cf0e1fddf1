-- The events that are picked by round robin, and how many these are at most.
use Rattle.std.specs.Prelude.{ℕ, Bool, ◌+◌, ◌*◌, ◌<◌, List, [], ◌∷◌, ◌++◌, length}
use Rattle.ghs_graph.specs.Graph.{Shape}
use Rattle.peer_network.specs.declared.event.Event.{Event}
use Rattle.peer_network.specs.Network.{network_of}
use Rattle.ghs_protocol.specs.Marks.{HasEnded}
use Rattle.ghs_protocol.specs.Run.{net_after}
use Rattle.ghs_orders.specs.Turns.{IsNextInTurn, place_behind}

-- the events of a run from the opening on, each of them the next in turn where the run hadn't ended and turns were left
pub data IsPickedInTurn (may : ℕ → Bool) (g : Shape) (turns : ℕ) : List Event → Type 0 where
  Begun : IsPickedInTurn may g turns []
  Picked : (es : List Event) (e : Event) → IsPickedInTurn may g turns es → (HasEnded g (net_after g es) → ⊥) → length es < turns →
      IsNextInTurn may (network_of g) (net_after g es) (place_behind (network_of g) es) e →
      IsPickedInTurn may g turns (es ++ e ∷ [])

-- At most so many events: in each of twice as many laps as the bound on messages and the nodes together two Takes for each link, and for each node
-- a wake.
abbrev pub most_events : Shape → ℕ → ℕ
most_events g b = 2 * (b + g.nodes) * (2 * length g.keys) + g.nodes
