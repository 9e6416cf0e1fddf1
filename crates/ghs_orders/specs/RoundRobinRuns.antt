-- Runs by round robin: what they leave of a world, and how long they are at most.
use Rattle.std.specs.Prelude.{ℕ, ◌+◌, ◌*◌, ◌≤◌, [], length}
use Rattle.ghs_graph.specs.Bound.{IsBound}
use Rattle.ghs_core.specs.NetState.{network}
use Rattle.ghs_world.specs.WorldState.{WorldState, wakers}
use Rattle.ghs_sched.specs.Runs.{HasRunBy}
use Rattle.ghs_orders.specs.Laps.{laps_in}
use Rattle.ghs_orders.specs.Picks.{IsPickedInTurn, most_events}

-- a world has run on so; no word of a schedule is used
abbrev pub HasRun : WorldState → WorldState → Type 0
HasRun old new = HasRunBy (λ es words. IsPickedInTurn (wakers old) old.net.graph old.turns es) old new []

-- its laps are at most twice as many as the bound on messages and the nodes together
abbrev pub HasFewLaps : WorldState → Type 0
HasFewLaps s = (b : ℕ) → IsBound s.net.graph.nodes (length s.net.graph.keys) b → laps_in (network s.net) s.net.trace ≤ 2 * (b + s.net.graph.nodes)

abbrev pub IsShort : WorldState → Type 0
IsShort s = (b : ℕ) → IsBound s.net.graph.nodes (length s.net.graph.keys) b → length s.net.trace ≤ most_events s.net.graph b

-- there are turns and ticket numbers for so many events
pub record HasTurns (s : WorldState) : Type 0 where
  pub bound : ℕ
  pub is : IsBound s.net.graph.nodes (length s.net.graph.keys) bound
  pub turns : most_events s.net.graph bound ≤ s.turns
  pub numbers : s.last + most_events s.net.graph bound ≤ 18446744073709551615
