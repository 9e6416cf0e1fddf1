-- Runs by rounds, as a page is told of them.
use Rattle.std.specs.Prelude.{◌≡◌, ◌⊎◌, ◌≤◌, ℕ, List, length}
use Rattle.ghs_graph.specs.Graph.{Shape}
use Rattle.peer_network.specs.declared.event.Event.{Event}
use Rattle.peer_network.specs.declared.wake_set.WakeSet.{WakeSet}
use Rattle.peer_network.specs.Wakes.{may_wake}
use Rattle.ghs_protocol.specs.Marks.{HasEnded}
use Rattle.ghs_protocol.specs.Run.{net_after}
use Rattle.ghs_rounds.specs.Runs.{IsPickedByRounds}
use Rattle.peer_schedule.specs.Schedule.{seeded}
use Rattle.peer_texts.specs.declared.trace.TheConstants.{EVENT_LIMIT}
use Rattle.peer_trace.specs.declared.protocol.Protocol.TheVariants.{Ghs}
use Rattle.peer_hand.specs.Texts.{HasNoGraph, IsTextOf}
use Rattle.peer_hand.specs.Timed.{timed_json}
use Rattle.peer_hand.specs.Words.{fault_json}
use Rattle.peer_hand.specs.declared.fault.HandFault.{HandFault}
use Rattle.peer_hand.specs.declared.fault.HandFault.TheVariants.{Graph, TurnLimit, Memory}

module _ (wake : WakeSet) (g : Shape) (seed : ℕ) (es : List Event) (n : ℕ) where
  -- a seed's schedule has picked these events by rounds, from the opening on, in so many
  abbrev pub IsByRounds : Type 0
  IsByRounds = (words : List ℕ) × IsPickedByRounds (may_wake g wake) g EVENT_LIMIT (seeded seed) es n words

  -- and with these the run has ended
  pub record IsTimed : Type 0 where
    pub picked : IsByRounds
    pub ended : HasEnded g (net_after g es)

  -- and with these no turn is left, and the run goes on
  pub record IsCut : Type 0 where
    pub picked : IsByRounds
    pub used : EVENT_LIMIT ≤ length es
    pub goes_on : HasEnded g (net_after g es) → ⊥

-- the text tells of such a run of the graph of a text
abbrev pub IsTimedText : WakeSet → List ℕ → ℕ → List ℕ → Type 0
IsTimedText wake graph seed text =
    (g : Shape) × (es : List Event) × (n : ℕ) × IsTextOf graph g × IsTimed wake g seed es n × (text ≡ timed_json Ghs n es)

-- why there is none
abbrev pub HasNoTime : WakeSet → List ℕ → ℕ → HandFault → Type 0
HasNoTime wake graph seed (Graph fault) = HasNoGraph graph (Graph fault)
HasNoTime wake graph seed TurnLimit = (g : Shape) × (es : List Event) × (n : ℕ) × IsTextOf graph g × IsCut wake g seed es n
HasNoTime wake graph seed Memory = Unit {0}
HasNoTime wake graph seed _ = ⊥

-- that run, or the fault for which there is none
abbrev pub IsTimedAnswer : WakeSet → List ℕ → ℕ → List ℕ → Type 0
IsTimedAnswer wake graph seed text =
    IsTimedText wake graph seed text ⊎ ((fault : HandFault) × HasNoTime wake graph seed fault × (text ≡ fault_json fault))
