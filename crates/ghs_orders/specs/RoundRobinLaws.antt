-- What holds of every run by round robin.
use Rattle.std.specs.List.{flat_map}
use Rattle.std.specs.Prelude.{◌≡◌, ◌≢◌, ℕ, ◌*◌, ◌≤◌, Bool, List, [], ◌∷◌, ◌++◌, length}
use Rattle.ghs_graph.specs.Graph.{Shape, IsGraph}
use Rattle.peer_network.specs.declared.event.Event.{Event}
use Rattle.peer_network.specs.declared.event.Event.TheVariants.{Wake}
use Rattle.peer_network.specs.Network.{Network, network_of}
use Rattle.ghs_protocol.specs.Fairness.{IsCut, IsLap}
use Rattle.ghs_protocol.specs.Net.{Net, opening}
use Rattle.ghs_orders.specs.Laps.{laps_in}
use Rattle.ghs_orders.specs.Picks.{IsPickedInTurn}
use Rattle.ghs_orders.specs.Turns.{IsNextInTurn}

-- one event at most is next in turn
abbrev pub TurnIsOne : Type 0
TurnIsOne =
    (may : ℕ → Bool) (g : Network) (w : Net) (from : ℕ) (e f : Event) → IsNextInTurn may g w from e → IsNextInTurn may g w from f → e ≡ f

-- whoever wakes by itself does so in the first lap
abbrev pub WakesComeFirst : Type 0
WakesComeFirst =
    (may : ℕ → Bool) (g : Shape) (turns : ℕ) (es : List Event) (v : ℕ) → IsGraph g →
    IsPickedInTurn may g turns (es ++ Wake v ∷ []) → laps_in (network_of g) (es ++ Wake v ∷ []) ≡ 1

-- A run cut into laps as fairness has them, as many as it has by round robin: in a row they are its events, and at most two Takes for each link
-- that complete the last.
pub record IsInLaps (g : Shape) (es : List Event) : Type 0 where
  pub laps : List (List Event)
  pub rest : List Event
  pub all : flat_map (λ (lap : List Event). lap) laps ≡ es ++ rest
  pub few : length rest ≤ 2 * length g.keys
  pub count : length laps ≡ laps_in (network_of g) es
  pub cut : IsCut (network_of g) (IsLap (network_of g)) (opening (network_of g)) laps

-- so no lap passes over a port that holds, when it begins, a message that doesn't wait
abbrev pub LapsAreFair : Type 0
LapsAreFair = (may : ℕ → Bool) (g : Shape) (turns : ℕ) (es : List Event) → IsGraph g → es ≢ [] → IsPickedInTurn may g turns es → IsInLaps g es
