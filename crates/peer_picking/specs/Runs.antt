-- What a run by rounds leaves of a world and a schedule.
use Rattle.std.specs.Prelude.{◌≡◌, ℕ, List}
use Rattle.peer_network.specs.declared.event.Event.{Event}
use Rattle.peer_schedule.specs.Picks.{IsPick}
use Rattle.peer_schedule.specs.Schedule.{next_of}
use Rattle.peer_machine.specs.Rules.{Rules}
use Rattle.peer_net.specs.NetState.{network}
use Rattle.peer_runs.specs.WorldState.{WorldState, wakers, HasPlayed}
use Rattle.peer_lengths.specs.Chain.{longest_chain}
use Rattle.peer_picking.specs.Picks.{IsPickedByRounds, IsRoundsRun}
use Rattle.peer_picking.specs.Rounds.{events_in}

module _ {S M : Type 0} (r : Rules S M) where
  -- the events of round n in a world
  abbrev pub round_events : WorldState → ℕ → List Event
  round_events s n = events_in r (wakers s) s.net.graph s.net.trace n

  -- the longest chain of a world's run
  abbrev pub chain_in : WorldState → ℕ
  chain_in s = longest_chain r (network s.net) s.net.trace

  -- the next word has picked one of the events of round n, and it has happened
  pub record HasPlayedNext (old new : WorldState) (n : ℕ) (words after : List ℕ) : Type 0 where
    pub event : Event
    pub pick : IsPick (round_events old n) words event
    pub played : HasPlayed r old event new
    pub rest : after ≡ next_of words

  -- a world has run from its opening on by so many rounds: graph and wake set stay, and the words have picked its events
  pub record HasRun (turns : ℕ) (old new : WorldState) (words after : List ℕ) (n : ℕ) : Type 0 where
    pub graph : new.net.graph ≡ old.net.graph
    pub wake : new.wake ≡ old.wake
    pub picked : IsPickedByRounds r (wakers old) old.net.graph turns words new.net.trace n after

  -- what has happened is the whole run
  abbrev pub IsWhole : ℕ → WorldState → WorldState → List ℕ → List ℕ → ℕ → Type 0
  IsWhole turns old new words after n = IsRoundsRun r (wakers old) old.net.graph turns words new.net.trace n after
