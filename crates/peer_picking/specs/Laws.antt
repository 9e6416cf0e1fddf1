-- What holds of every run by rounds of a protocol.
use Rattle.std.specs.Prelude.{◌≡◌, ℕ, ◌≤◌, Bool, List, []}
use Rattle.ghs_graph.specs.Graph.{Shape, IsGraph}
use Rattle.peer_network.specs.declared.event.Event.{Event}
use Rattle.peer_network.specs.Network.{network_of}
use Rattle.peer_machine.specs.Rules.{Rules}
use Rattle.peer_runs.specs.Lawful.{lawful_events}
use Rattle.peer_lengths.specs.Chain.{longest_chain}
use Rattle.peer_picking.specs.Picks.{IsPickedByRounds}

module _ {S M : Type 0} (r : Rules S M) where
  -- no chain has more messages than there were rounds,
  abbrev pub ChainsAreWithinRounds : Type 0
  ChainsAreWithinRounds =
      (may : ℕ → Bool) (g : Shape) (turns : ℕ) (words : List ℕ) (es : List Event) (n : ℕ) (after : List ℕ) → IsGraph g →
      IsPickedByRounds r may g turns words es n after → longest_chain r (network_of g) es ≤ n

  -- and where no event may happen any more, the longest chain has just as many
  abbrev pub RoundsAreChains : Type 0
  RoundsAreChains =
      (may : ℕ → Bool) (g : Shape) (turns : ℕ) (words : List ℕ) (es : List Event) (n : ℕ) (after : List ℕ) → IsGraph g →
      IsPickedByRounds r may g turns words es n after → lawful_events r may g es ≡ [] → longest_chain r (network_of g) es ≡ n
