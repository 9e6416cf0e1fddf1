-- What a run that takes first what was sent last leaves of a world and a schedule.
use Rattle.std.specs.Prelude.{◌≡◌, ℕ, ◌⊎◌, List}
use Rattle.peer_network.specs.declared.event.Event.{Event}
use Rattle.peer_schedule.specs.Picks.{IsPick}
use Rattle.peer_schedule.specs.Schedule.{next_of}
use Rattle.peer_machine.specs.Rules.{Rules}
use Rattle.peer_net.specs.NetState.{NetState, network, net_of}
use Rattle.peer_runs.specs.WorldState.{WorldState, wakers, ready_events, HasPlayed}
use Rattle.peer_picking.specs.Latest.{IsLatest, NoTake}
use Rattle.peer_picking.specs.Newest.{Newest, newest_of}
use Rattle.peer_picking.specs.LifoPicks.{IsPickedLast, IsLifoRun}

module _ {S M : Type 0} (r : Rules S M) where
  -- of a net: the numbers of its messages, which Take is the latest, and whether no message waits
  abbrev pub newest_in : NetState → Newest
  newest_in s = newest_of r (network s) s.trace

  abbrev pub IsLatestIn : NetState → Event → Type 0
  IsLatestIn s e = IsLatest r (network s) (net_of r s) (newest_in s) e

  abbrev pub NoTakeIn : NetState → Type 0
  NoTakeIn s = NoTake r (network s) (net_of r s)

  -- the event is the next of such a run, and leaves these words
  abbrev pub IsNext : WorldState → List ℕ → Event → List ℕ → Type 0
  IsNext s words e after = (IsLatestIn s.net e × (after ≡ words)) ⊎ (NoTakeIn s.net × IsPick (ready_events r s) words e × (after ≡ next_of words))

  -- it has happened
  pub record HasPlayedNext (old new : WorldState) (words after : List ℕ) : Type 0 where
    pub event : Event
    pub next : IsNext old words event after
    pub played : HasPlayed r old event new

  -- a world has run on so: graph and wake set stay
  pub record HasRun (turns : ℕ) (old new : WorldState) (words after : List ℕ) : Type 0 where
    pub graph : new.net.graph ≡ old.net.graph
    pub wake : new.wake ≡ old.wake
    pub picked : IsPickedLast r (wakers old) old.net.graph turns old.net.trace words new.net.trace after

  -- what has happened is the whole run
  abbrev pub IsWhole : ℕ → WorldState → WorldState → List ℕ → List ℕ → Type 0
  IsWhole turns old new words after = IsLifoRun r (wakers old) old.net.graph turns old.net.trace words new.net.trace after
