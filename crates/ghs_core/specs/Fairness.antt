-- What follows from a net of a run, where no queue is passed over for ever.
use Rattle.std.specs.Prelude.{◌≡◌, ◌≢◌, ℕ, ◌+◌, ◌*◌, ◌≤◌, Bool, true, Option, Some, None, List, [], length}
use Rattle.ghs_graph.specs.Bound.{IsBound}
use Rattle.ghs_graph.specs.Graph.{Shape}
use Rattle.peer_network.specs.declared.event.Event.{Event}
use Rattle.peer_network.specs.Network.{network_of, At, far}
use Rattle.peer_network.specs.Wakes.{AllMayWake}
use Rattle.ghs_protocol.specs.Fairness.{ComesToRest, IsCourse, IsCut, IsFullLap, IsLap, IsServed, IsWeaklyFair, WakesAll}
use Rattle.ghs_protocol.specs.Living.{GoesOn}
use Rattle.ghs_protocol.specs.Net.{Net}
use Rattle.ghs_protocol.specs.Run.{run}

pub record GoesOnFairly (g : Shape) (w : Net) : Type 0 where
  -- in a set of nodes that no link leaves, wherever a message waits, a queue holds one that doesn't, behind one at most that does
  pub goes : (S : ℕ → Bool) → ((v p : ℕ) → At (network_of g) v p → S v ≡ true → S (far (network_of g) v p) ≡ true) →
      (v p : ℕ) → At (network_of g) v p → S v ≡ true → w.queue v p ≢ [] → GoesOn (network_of g) w S
  -- in whatever way what follows is cut into laps, there are at most twice as many as the bound on messages and the nodes together
  pub laps : (b : ℕ) → IsBound g.nodes (length g.keys) b →
      (ss : List (List Event)) → IsCut (network_of g) (IsLap (network_of g)) w ss → length ss ≤ 2 * (b + g.nodes)
  -- and half as many full laps
  pub full_laps : (b : ℕ) → IsBound g.nodes (length g.keys) b →
      (ss : List (List Event)) → IsCut (network_of g) (IsFullLap (network_of g)) w ss → length ss ≤ b + g.nodes
  -- what follows is short if no queue that holds a message that doesn't wait is passed over for f events in a row
  pub served : (b : ℕ) → IsBound g.nodes (length g.keys) b → (f : ℕ) → 1 ≤ f →
      (es : List Event) (w' : Net) → run (network_of g) es w ≡ Some w' → IsServed (network_of g) (IsLap (network_of g)) f w es →
      length es ≤ (b + g.nodes) * (2 * f)
  -- and half as long if no such message, first or second in its queue, isn't taken for f events
  pub prompt : (b : ℕ) → IsBound g.nodes (length g.keys) b → (f : ℕ) → 1 ≤ f →
      (es : List Event) (w' : Net) → run (network_of g) es w ≡ Some w' → IsServed (network_of g) (IsFullLap (network_of g)) f w es →
      length es ≤ (b + g.nodes) * f
  -- in no weakly fair course something happens at each moment
  pub endless : (net : ℕ → Net) (event : ℕ → Option Event) → net 0 ≡ w → IsCourse (network_of g) net event →
      IsWeaklyFair (network_of g) net event → ((i : ℕ) → event i ≢ None) → ⊥
  -- and such a course comes to its end, if in each component a node that may wake by itself does
  pub rests : (may : ℕ → Bool) (net : ℕ → Net) (event : ℕ → Option Event) → net 0 ≡ w → AllMayWake may g →
      IsCourse (network_of g) net event → IsWeaklyFair (network_of g) net event → WakesAll may g net → ComesToRest g net
