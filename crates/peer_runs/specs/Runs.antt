-- What a seeded run leaves of a world and a schedule.
use Rattle.std.specs.Prelude.{◌≡◌, ℕ, ◌<◌, ◌≤◌, List, length}
use Rattle.peer_network.specs.declared.event.Event.{Event}
use Rattle.peer_schedule.specs.Picks.{IsPick}
use Rattle.peer_schedule.specs.Schedule.{next_of}
use Rattle.peer_machine.specs.Rules.{Rules}
use Rattle.peer_runs.specs.Picks.{IsPicked, IsSeededRun}
use Rattle.peer_runs.specs.WorldState.{WorldState, wakers, ready_events, HasPlayed}

-- the next word has picked one of the events that were ready, and it has happened
pub record HasPlayedNext {S M : Type 0} (r : Rules S M) (old new : WorldState) (words after : List ℕ) : Type 0 where
  pub event : Event
  pub pick : IsPick (ready_events r old) words event
  pub played : HasPlayed r old event new
  pub rest : after ≡ next_of words

-- a world has run on: graph and wake set stay, and what a schedule has picked leads to the trace, and leaves these words
pub record HasRun {S M : Type 0} (r : Rules S M) (turns : ℕ) (old new : WorldState) (words after : List ℕ) : Type 0 where
  pub graph : new.net.graph ≡ old.net.graph
  pub wake : new.wake ≡ old.wake
  pub picked : IsPicked r (wakers old) old.net.graph turns old.net.trace words new.net.trace after

-- what has happened is the whole seeded run
abbrev pub IsWhole : {S M : Type 0} → Rules S M → ℕ → WorldState → WorldState → List ℕ → List ℕ → Type 0
IsWhole r turns old new words after = IsSeededRun r (wakers old) old.net.graph turns old.net.trace words new.net.trace after

-- the events have come to the turns, and one is still ready
pub record IsAtLimit {S M : Type 0} (r : Rules S M) (turns : ℕ) (s : WorldState) : Type 0 where
  pub spent : turns ≤ length s.net.trace
  pub ready : 0 < length (ready_events r s)
