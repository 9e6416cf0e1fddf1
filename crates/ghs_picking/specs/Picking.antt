-- Runs of a graph by the schedule of a seed, which picks among all events that may happen, patiently, by rounds, what waits, or what was sent last;
-- or by round robin, whatever the seed.
use Rattle.std.specs.Prelude.{◌≡◌, ℕ, ◌+◌, ◌*◌, ◌≤◌, ◌⊎◌, List, [], length, Option, Some, None}
use Rattle.ghs_graph.specs.Bound.{IsBound}
use Rattle.ghs_graph.specs.Graph.{Shape}
use Rattle.peer_network.specs.declared.event.Event.{Event}
use Rattle.ghs_protocol.specs.Marks.{HasEnded}
use Rattle.peer_network.specs.Network.{network_of}
use Rattle.ghs_protocol.specs.Run.{net_after}
use Rattle.ghs_sched.specs.Picks.{IsSeededRun}
use Rattle.peer_schedule.specs.Schedule.{seeded}
use Rattle.ghs_sched.specs.declared.fault.RunFault.{RunFault}
use Rattle.ghs_sched.specs.declared.fault.RunFault.TheVariants.{TurnLimit, Stalled, Unforeseen, Memory}
use Rattle.peer_network.specs.declared.wake_set.WakeSet.{WakeSet}
use Rattle.peer_network.specs.Wakes.{may_wake}
use Rattle.ghs_world.specs.WorldState.{WorldState}
use Rattle.ghs_following.specs.Chains.{longest_chain}
use Rattle.ghs_patient.specs.Runs.{IsPatientlyPicked}
use Rattle.ghs_rounds.specs.Runs.{IsPickedByRounds}
use Rattle.ghs_orders.specs.WaitsRuns.{IsPickedWaiting}
use Rattle.ghs_orders.specs.LifoRuns.{IsPickedLast}
use Rattle.ghs_orders.specs.Laps.{laps_in}
use Rattle.ghs_orders.specs.Picks.{IsPickedInTurn, most_events}
use Rattle.ghs_picking.specs.RoundBound.{IsRoundBound}
use Rattle.ghs_choices.specs.declared.schedule_kind.ScheduleKind.{ScheduleKind}
use Rattle.ghs_choices.specs.declared.schedule_kind.ScheduleKind.TheVariants.{Seeded, Patient, Rounds, Waits, Lifo, RoundRobin}

-- the events of the seed's run of a graph: all that its schedule picks, from the opening on
pub record IsSeeded (seed : ℕ) (wake : WakeSet) (turns : ℕ) (g : Shape) (events : List Event) : Type 0 where
  pub words : List ℕ
  pub run : IsSeededRun (may_wake g wake) g turns [] (seeded seed) events words

-- there are turns for twice as many events as the bound on messages and the nodes together
pub record HasTurnsFor (g : Shape) (turns : ℕ) : Type 0 where
  pub bound : ℕ
  pub is : IsBound g.nodes (length g.keys) bound
  pub enough : 2 * (bound + g.nodes) ≤ turns

-- The events of the seed's patient run of a graph: all that its schedule patiently picks, from the opening on to the end or to the last turn. They
-- are so many at most, and with turns for so many they lead to the end.
pub record IsPatient (seed : ℕ) (wake : WakeSet) (turns : ℕ) (g : Shape) (events : List Event) : Type 0 where
  pub words : List ℕ
  pub picked : IsPatientlyPicked (may_wake g wake) g turns [] (seeded seed) events words
  pub over : HasEnded g (net_after g events) ⊎ (turns ≤ length events)
  pub short : (b : ℕ) → IsBound g.nodes (length g.keys) b → length events ≤ 2 * (b + g.nodes)
  pub ends : HasTurnsFor g turns → HasEnded g (net_after g events)

-- The events that the seed's schedule picks of a graph in so many rounds, from the opening on. These are at most the bound on messages and the nodes
-- together; and once the run has ended, its longest chain has just as many messages, and they are at most the bound on rounds.
pub record IsInRounds (seed : ℕ) (wake : WakeSet) (turns : ℕ) (g : Shape) (events : List Event) (rounds : ℕ) : Type 0 where
  pub words : List ℕ
  pub picked : IsPickedByRounds (may_wake g wake) g turns (seeded seed) events rounds words
  pub few : (b : ℕ) → IsBound g.nodes (length g.keys) b → rounds ≤ b + g.nodes
  pub chain : HasEnded g (net_after g events) → longest_chain (network_of g) events ≡ rounds
  pub within : HasEnded g (net_after g events) → (b : ℕ) → IsRoundBound wake g b → rounds ≤ b

-- The events of the seed's run of a graph by rounds: all that its schedule picks so, from the opening on to the end or to the last turn. They are at
-- most as many as a patient run may have, and with turns for so many they lead to the end.
pub record IsByRounds (seed : ℕ) (wake : WakeSet) (turns : ℕ) (g : Shape) (events : List Event) : Type 0 where
  pub rounds : ℕ
  pub picked : IsInRounds seed wake turns g events rounds
  pub over : HasEnded g (net_after g events) ⊎ (turns ≤ length events)
  pub short : (b : ℕ) → IsBound g.nodes (length g.keys) b → length events ≤ 2 * (b + g.nodes)
  pub ends : HasTurnsFor g turns → HasEnded g (net_after g events)

-- The events of the seed's run of a graph that prefers what waits: all that its schedule picks so, from the opening on to the end or the last turn.
pub record IsWaiting (seed : ℕ) (wake : WakeSet) (turns : ℕ) (g : Shape) (events : List Event) : Type 0 where
  pub words : List ℕ
  pub picked : IsPickedWaiting (may_wake g wake) g turns [] (seeded seed) events words
  pub over : HasEnded g (net_after g events) ⊎ (turns ≤ length events)

-- The events of the run of a graph that takes first what was sent last, from the opening on to the end or to the last turn; the seed's words pick
-- where no message would be consumed. They are at most as many as a patient run may have, and with turns for so many they lead to the end.
pub record IsLast (seed : ℕ) (wake : WakeSet) (turns : ℕ) (g : Shape) (events : List Event) : Type 0 where
  pub words : List ℕ
  pub picked : IsPickedLast (may_wake g wake) g turns [] (seeded seed) events words
  pub over : HasEnded g (net_after g events) ⊎ (turns ≤ length events)
  pub short : (b : ℕ) → IsBound g.nodes (length g.keys) b → length events ≤ 2 * (b + g.nodes)
  pub ends : HasTurnsFor g turns → HasEnded g (net_after g events)

-- there are turns for as many events as a run by round robin may have
pub record HasTurnsInTurn (g : Shape) (turns : ℕ) : Type 0 where
  pub bound : ℕ
  pub is : IsBound g.nodes (length g.keys) bound
  pub enough : most_events g bound ≤ turns

-- The events of the run of a graph by round robin, from the opening on to the end or to the last turn; a seed has no effect. Its laps are at most
-- twice as many as the bound on messages and the nodes together, and with turns for all events of so many they lead to the end.
pub record IsInTurn (wake : WakeSet) (turns : ℕ) (g : Shape) (events : List Event) : Type 0 where
  pub picked : IsPickedInTurn (may_wake g wake) g turns events
  pub over : HasEnded g (net_after g events) ⊎ (turns ≤ length events)
  pub laps : (b : ℕ) → IsBound g.nodes (length g.keys) b → laps_in (network_of g) events ≤ 2 * (b + g.nodes)
  pub short : (b : ℕ) → IsBound g.nodes (length g.keys) b → length events ≤ most_events g b
  pub ends : HasTurnsInTurn g turns → HasEnded g (net_after g events)

-- the events of the run that a seed's schedule picks of a graph, among all that may happen, patiently, by rounds, what waits, what was sent last, or
-- by round robin
abbrev pub IsPickedBy : ScheduleKind → ℕ → WakeSet → ℕ → Shape → List Event → Type 0
IsPickedBy Seeded seed wake turns g events = IsSeeded seed wake turns g events
IsPickedBy Patient seed wake turns g events = IsPatient seed wake turns g events
IsPickedBy Rounds seed wake turns g events = IsByRounds seed wake turns g events
IsPickedBy Waits seed wake turns g events = IsWaiting seed wake turns g events
IsPickedBy Lifo seed wake turns g events = IsLast seed wake turns g events
IsPickedBy RoundRobin seed wake turns g events = IsInTurn wake turns g events

-- in how many rounds a schedule has picked events, where it picks by rounds
abbrev pub AreRounds : ScheduleKind → ℕ → WakeSet → ℕ → Shape → List Event → Option ℕ → Type 0
AreRounds Seeded seed wake turns g events rounds = rounds ≡ None
AreRounds Patient seed wake turns g events rounds = rounds ≡ None
AreRounds Waits seed wake turns g events rounds = rounds ≡ None
AreRounds Lifo seed wake turns g events rounds = rounds ≡ None
AreRounds RoundRobin seed wake turns g events rounds = rounds ≡ None
AreRounds Rounds seed wake turns g events rounds = (r : ℕ) × (rounds ≡ Some r) × IsInRounds seed wake turns g events r

-- why a run from the opening on stops before its end: its turns are used, or memory runs out; an event is always ready, and has a rule
abbrev pub StopsFor : WorldState → RunFault → Type 0
StopsFor s TurnLimit = length s.net.trace ≡ s.turns
StopsFor s Stalled = ⊥
StopsFor s Unforeseen = ⊥
StopsFor s Memory = Unit {0}
