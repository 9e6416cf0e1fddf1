-- Runs that go on by a seed from wherever they stand.
use Rattle.std.specs.Prelude.{◌≤◌, ℕ, List, length}
use Rattle.ghs_graph.specs.Graph.{Shape}
use Rattle.peer_network.specs.declared.event.Event.{Event}
use Rattle.peer_machine.specs.Net.{Net}
use Rattle.peer_machine.specs.Rules.{Rules}
use Rattle.peer_machine.specs.Run.{net_after}
use Rattle.peer_runs.specs.Picks.{IsPicked}
use Rattle.peer_runs.specs.WorldState.{WorldState, wakers}
use Rattle.peer_schedule.specs.Schedule.{seeded}
use Rattle.peer_texts.specs.declared.trace.TheConstants.{EVENT_LIMIT}
use Rattle.peer_hand.specs.declared.fault.HandFault.{HandFault}
use Rattle.peer_hand.specs.declared.fault.HandFault.TheVariants.{TurnLimit, Memory}

module _ {S M : Type 0} (r : Rules S M) (has_ended : Shape → Net S M → Type 0) (seed : ℕ) (w : WorldState) where
  -- from a world on a seed's schedule has picked the events by which its trace has grown to these
  abbrev pub GoesOnTo : List Event → Type 0
  GoesOnTo es = (words : List ℕ) × IsPicked r (wakers w) w.net.graph EVENT_LIMIT w.net.trace (seeded seed) es words

  -- and with these the run has ended
  pub record HasGoneOn (es : List Event) : Type 0 where
    pub picked : GoesOnTo es
    pub ended : has_ended w.net.graph (net_after r w.net.graph es)

  -- and with these no turn is left, and the run goes on
  pub record HasStopped (es : List Event) : Type 0 where
    pub picked : GoesOnTo es
    pub used : EVENT_LIMIT ≤ length es
    pub goes_on : has_ended w.net.graph (net_after r w.net.graph es) → ⊥

  -- why a run stops before its end
  abbrev pub StopsFor : List Event → HandFault → Type 0
  StopsFor es TurnLimit = HasStopped es
  StopsFor es Memory = Unit {0}
  StopsFor es _ = ⊥
