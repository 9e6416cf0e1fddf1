-- Seeded runs: what they leave of a world and a schedule, and how they end.
use Rattle.std.specs.Prelude.{◌≡◌, ℕ, ◌+◌, ◌≤◌, ◌⊎◌, Some, List, [], length}
use Rattle.peer_network.specs.declared.event.Event.{Event}
use Rattle.ghs_protocol.specs.Marks.{HasEnded}
use Rattle.ghs_core.specs.NetState.{IsLeastHalted, network}
use Rattle.ghs_world.specs.Ready.{ready_events}
use Rattle.ghs_world.specs.Steps.{Makes}
use Rattle.ghs_world.specs.WorldState.{WorldState, home, wakers}
use Rattle.ghs_sched.specs.Picks.{IsPickedAmong, IsSeededRun, Offers, lawful_events}
use Rattle.peer_schedule.specs.Picks.{IsPick}
use Rattle.peer_schedule.specs.Schedule.{next_of}
use Rattle.ghs_sched.specs.declared.fault.RunFault.{RunFault}
use Rattle.ghs_sched.specs.declared.fault.RunFault.TheVariants.{TurnLimit, Stalled, Unforeseen, Memory}
use Rattle.ghs_sched.specs.declared.run.RunEnd.{RunEnd}
use Rattle.ghs_sched.specs.declared.run.RunEnd.TheVariants.{Halted}

-- A world has run on: graph, wake set and turns stay, nothing is out, each event has used one ticket number, and what a schedule has picked leads to
-- the trace, and leaves these words.
pub record HasRunBy (leads : List Event → List ℕ → Type 0) (old new : WorldState) (after : List ℕ) : Type 0 where
  pub graph : new.net.graph ≡ old.net.graph
  pub wake : new.wake ≡ old.wake
  pub turns : new.turns ≡ old.turns
  pub outs : new.outs ≡ []
  pub numbers : new.last + length old.net.trace ≡ old.last + length new.net.trace
  pub picked : leads new.net.trace after

-- a world has run on by a schedule among the events that are offered
abbrev pub HasRunAmong : Offers → WorldState → WorldState → List ℕ → List ℕ → Type 0
HasRunAmong offers old new words after = HasRunBy (IsPickedAmong offers (wakers old) old.net.graph old.turns old.net.trace words) old new after

-- among all events
abbrev pub HasRun : WorldState → WorldState → List ℕ → List ℕ → Type 0
HasRun old new words after = HasRunAmong lawful_events old new words after

-- the trace is the whole seeded run
abbrev pub IsWhole : WorldState → WorldState → List ℕ → List ℕ → Type 0
IsWhole old new words after = IsSeededRun (wakers old) old.net.graph old.turns old.net.trace words new.net.trace after

-- the run has ended, and this is the least node that has halted
abbrev pub IsEnd : WorldState → RunEnd → Type 0
IsEnd s (Halted v) = HasEnded s.net.graph (home s) × IsLeastHalted (network s.net) (home s) (Some v)

-- why a run stops before its end: no turn is left, or no ticket number; or memory runs out. An event is always ready, and has a rule.
abbrev pub EndsFor : WorldState → RunFault → Type 0
EndsFor s TurnLimit = (length s.net.trace ≡ s.turns) ⊎ (18446744073709551615 ≤ s.last)
EndsFor s Stalled = ⊥
EndsFor s Unforeseen = ⊥
EndsFor s Memory = Unit {0}

-- the next word has picked one of these events, and it has happened
pub record HasMadeOneOf (events : List Event) (old new : WorldState) (words after : List ℕ) : Type 0 where
  pub event : Event
  pub pick : IsPick events words event
  pub made : Makes old event new
  pub rest : after ≡ next_of words

-- one of the events that were ready
abbrev pub HasMadeNext : WorldState → WorldState → List ℕ → List ℕ → Type 0
HasMadeNext old new words after = HasMadeOneOf (ready_events old) old new words after
