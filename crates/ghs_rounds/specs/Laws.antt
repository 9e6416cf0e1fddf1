-- What holds of every run by rounds.
use Rattle.std.specs.List.{Contains}
use Rattle.std.specs.Prelude.{◌≡◌, ◌≢◌, ◌↔◌, ℕ, suc, ◌+◌, ◌*◌, ◌<◌, ◌≤◌, Bool, true, List, length}
use Rattle.ghs_graph.specs.Bound.{IsBound, IsFloorLog2}
use Rattle.ghs_graph.specs.declared.key.Key.{Key}
use Rattle.ghs_graph.specs.Graph.{Shape, IsGraph}
use Rattle.ghs_graph.specs.Ports.{ports_of}
use Rattle.ghs_node.specs.declared.message.Phase.TheVariants.{Sleeping}
use Rattle.peer_network.specs.declared.event.Event.{Event}
use Rattle.ghs_protocol.specs.Marks.{HasEnded}
use Rattle.peer_network.specs.Network.{network_of}
use Rattle.ghs_protocol.specs.Run.{net_after}
use Rattle.peer_network.specs.Wakes.{AllMayWake}
use Rattle.ghs_following.specs.Chains.{longest_chain}
use Rattle.ghs_rounds.specs.Moments.{GoesByRounds, IsByRounds, IsPickedByMoments, Moments}
use Rattle.ghs_rounds.specs.Runs.{IsPickedByRounds}

-- where it has ended, its longest chain has as many messages as there were rounds
abbrev pub RoundsAreChains : Type 0
RoundsAreChains =
    (may : ℕ → Bool) (g : Shape) (turns : ℕ) (words : List ℕ) (es : List Event) (r : ℕ) (after : List ℕ) → IsGraph g →
    IsPickedByRounds may g turns words es r after → HasEnded g (net_after g es) → longest_chain (network_of g) es ≡ r

-- it has as many rounds at most as the bound on messages and the nodes together
abbrev pub RoundsAreFew : Type 0
RoundsAreFew =
    (may : ℕ → Bool) (g : Shape) (turns : ℕ) (words : List ℕ) (es : List Event) (r : ℕ) (after : List ℕ) → IsGraph g → AllMayWake may g →
    (b : ℕ) → IsBound g.nodes (length g.keys) b → IsPickedByRounds may g turns words es r after → r ≤ b + g.nodes

-- and as many events at most as twice that, so many as a patient run may have
abbrev pub RunsByRoundsAreShort : Type 0
RunsByRoundsAreShort =
    (may : ℕ → Bool) (g : Shape) (turns : ℕ) (words : List ℕ) (es : List Event) (r : ℕ) (after : List ℕ) → IsGraph g →
    (b : ℕ) → IsBound g.nodes (length g.keys) b → IsPickedByRounds may g turns words es r after → length es ≤ 2 * (b + g.nodes)

-- where it hasn't ended, it has fewer: so many bring it to its end
abbrev pub RunsByRoundsEnd : Type 0
RunsByRoundsEnd =
    (may : ℕ → Bool) (g : Shape) (turns : ℕ) (words : List ℕ) (es : List Event) (r : ℕ) (after : List ℕ) → IsGraph g → AllMayWake may g →
    (b : ℕ) → IsBound g.nodes (length g.keys) b → IsPickedByRounds may g turns words es r after → (HasEnded g (net_after g es) → ⊥) →
    length es < 2 * (b + g.nodes)

-- The rounds by which a schedule picks are those of the literature.

-- it has picked a run by the chains just where it has by the moments of sending, in as many rounds and with the same state after them
abbrev pub PicksAreByMoments : Type 0
PicksAreByMoments =
    (may : ℕ → Bool) (g : Shape) (turns : ℕ) (words : List ℕ) (es : List Event) (r : ℕ) (after : List ℕ) → IsGraph g →
    (IsPickedByRounds may g turns words es r after ↔ ((sent : Moments) × IsPickedByMoments may g turns words es r after sent))

-- so what it has picked is a run by rounds
abbrev pub PicksAreByRounds : Type 0
PicksAreByRounds =
    (may : ℕ → Bool) (g : Shape) (turns : ℕ) (words : List ℕ) (es : List Event) (r : ℕ) (after : List ℕ) → IsGraph g →
    IsPickedByRounds may g turns words es r after → (sent : Moments) × IsByRounds may g es r sent

-- How many rounds there are, in whatever order the events of a round happen.

-- where a graph has more than one node, a run that has ended has at most as many as its messages: less than the bound by twice the nodes
abbrev pub RoundsAreFewer : Type 0
RoundsAreFewer =
    (may : ℕ → Bool) (g : Shape) (es : List Event) (r : ℕ) (sent : Moments) → IsGraph g → 2 ≤ g.nodes →
    (b : ℕ) → IsBound g.nodes (length g.keys) b → IsByRounds may g es r sent → HasEnded g (net_after g es) → r + 2 * g.nodes ≤ b

-- where each node may wake by itself: of an ended run at most three for each node and level, and two for each level and each port, but one, of a node
abbrev pub AwakeRoundsAreFew : Type 0
AwakeRoundsAreFew =
    (may : ℕ → Bool) (g : Shape) (es : List Event) (r : ℕ) (sent : Moments) → IsGraph g →
    ((v : ℕ) → 1 ≤ v → v ≤ g.nodes → may v ≡ true) →
    (k : ℕ) → IsFloorLog2 g.nodes k → (d : ℕ) →
    ((v : ℕ) → 1 ≤ v → v ≤ g.nodes → length (ports_of g.keys v) ≤ suc d) →
    IsByRounds may g es r sent → HasEnded g (net_after g es) → r ≤ 3 * (g.nodes * k) + 2 * (d * k)

-- and before its end at most one more
abbrev pub AwakeRoundsAreNear : Type 0
AwakeRoundsAreNear =
    (may : ℕ → Bool) (g : Shape) (es : List Event) (r : ℕ) (sent : Moments) → IsGraph g →
    ((v : ℕ) → 1 ≤ v → v ≤ g.nodes → may v ≡ true) →
    (k : ℕ) → IsFloorLog2 g.nodes k → (d : ℕ) →
    ((v : ℕ) → 1 ≤ v → v ≤ g.nodes → length (ports_of g.keys v) ≤ suc d) →
    IsByRounds may g es r sent → r ≤ suc (3 * (g.nodes * k) + 2 * (d * k))

-- no two links have the same ends
abbrev pub IsSimple : Shape → Type 0
IsSimple g = (j k : Key) → Contains g.keys j → Contains g.keys k → j.a ≡ k.a → j.b ≡ k.b → j ≡ k

-- then five for each node and level
abbrev pub SimpleRoundsAreFew : Type 0
SimpleRoundsAreFew =
    (may : ℕ → Bool) (g : Shape) (es : List Event) (r : ℕ) (sent : Moments) → IsGraph g → IsSimple g →
    ((v : ℕ) → 1 ≤ v → v ≤ g.nodes → may v ≡ true) →
    (k : ℕ) → IsFloorLog2 g.nodes k →
    IsByRounds may g es r sent → HasEnded g (net_after g es) → r ≤ 5 * (g.nodes * k)

-- whoever wakes by itself: from where all are awake, in some round, at most as many more
abbrev pub WokenRoundsAreFew : Type 0
WokenRoundsAreFew =
    (may : ℕ → Bool) (g : Shape) (es fs : List Event) (s r : ℕ) (before sent : Moments) → IsGraph g → IsByRounds may g es s before →
    ((v : ℕ) → 1 ≤ v → v ≤ g.nodes → ((net_after g es).node v).head.phase ≢ Sleeping) →
    (k : ℕ) → IsFloorLog2 g.nodes k → (d : ℕ) →
    ((v : ℕ) → 1 ≤ v → v ≤ g.nodes → length (ports_of g.keys v) ≤ suc d) →
    GoesByRounds may g es s before fs r sent → HasEnded g (net_after g fs) → r ≤ s + (3 * (g.nodes * k) + 2 * (d * k))

-- so where each node may wake by itself the longest chain of an ended run has no more messages than that
abbrev pub AwakeChainsAreShort : Type 0
AwakeChainsAreShort =
    (may : ℕ → Bool) (g : Shape) (es : List Event) (r : ℕ) (sent : Moments) → IsGraph g →
    ((v : ℕ) → 1 ≤ v → v ≤ g.nodes → may v ≡ true) →
    (k : ℕ) → IsFloorLog2 g.nodes k → (d : ℕ) →
    ((v : ℕ) → 1 ≤ v → v ≤ g.nodes → length (ports_of g.keys v) ≤ suc d) →
    IsByRounds may g es r sent → HasEnded g (net_after g es) → longest_chain (network_of g) es ≤ 3 * (g.nodes * k) + 2 * (d * k)

-- An ended run by rounds of this graph, where these nodes may wake by themselves, has no more rounds than these bounds.
pub record AreFewRounds (may : ℕ → Bool) (g : Shape) (r : ℕ) : Type 0 where
  pub any : 2 ≤ g.nodes → (b : ℕ) → IsBound g.nodes (length g.keys) b → r + 2 * g.nodes ≤ b
  pub awake : ((v : ℕ) → 1 ≤ v → v ≤ g.nodes → may v ≡ true) → (k : ℕ) → IsFloorLog2 g.nodes k → (d : ℕ) →
      ((v : ℕ) → 1 ≤ v → v ≤ g.nodes → length (ports_of g.keys v) ≤ suc d) → r ≤ 3 * (g.nodes * k) + 2 * (d * k)
  pub simple : IsSimple g → ((v : ℕ) → 1 ≤ v → v ≤ g.nodes → may v ≡ true) → (k : ℕ) → IsFloorLog2 g.nodes k → r ≤ 5 * (g.nodes * k)
