-- The laps of a run by round robin, and the bound on them.
use Rattle.std.specs.Prelude.{◌≡◌, ℕ, ◌+◌, ◌*◌, Option, Some, None, List, length}
use Rattle.ghs_graph.specs.Bound.{IsBound}
use Rattle.ghs_graph.specs.Graph.{Shape}
use Rattle.peer_network.specs.declared.event.Event.{Event}
use Rattle.peer_network.specs.Network.{network_of}
use Rattle.ghs_orders.specs.Laps.{laps_in}
use Rattle.ghs_choices.specs.declared.schedule_kind.ScheduleKind.{ScheduleKind}
use Rattle.ghs_choices.specs.declared.schedule_kind.ScheduleKind.TheVariants.{Seeded, Patient, Rounds, Waits, Lifo, RoundRobin}
use Rattle.ghs_picking.specs.declared.laps.LapCount.{LapCount}

-- in how many laps a run of a graph went, where it went by round robin, and twice the bound on messages and the nodes together
abbrev pub AreLaps : ScheduleKind → Shape → List Event → Option LapCount → Type 0
AreLaps Seeded g events laps = laps ≡ None
AreLaps Patient g events laps = laps ≡ None
AreLaps Rounds g events laps = laps ≡ None
AreLaps Waits g events laps = laps ≡ None
AreLaps Lifo g events laps = laps ≡ None
AreLaps RoundRobin g events laps =
    (b : ℕ) × IsBound g.nodes (length g.keys) b × (laps ≡ Some (record { laps = laps_in (network_of g) events; bound = 2 * (b + g.nodes) }))
