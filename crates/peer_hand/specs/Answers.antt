-- The texts that answer a page.
use Rattle.std.specs.Prelude.{◌≡◌, ◌⊎◌, ℕ, List}
use Rattle.ghs_graph.specs.Graph.{Shape}
use Rattle.peer_network.specs.declared.event.Event.{Event}
use Rattle.peer_network.specs.declared.wake_set.WakeSet.{WakeSet}
use Rattle.peer_machine.specs.Net.{Net}
use Rattle.peer_machine.specs.Rules.{Rules}
use Rattle.peer_runs.specs.WorldState.{WorldState}
use Rattle.peer_trace.specs.Text.{stored_text}
use Rattle.peer_trace.specs.declared.protocol.Protocol.{Protocol}
use Rattle.peer_words.specs.Looks.{Looks}
use Rattle.peer_words.specs.Words.{Words}
use Rattle.peer_hand.specs.Going.{HasGoneOn, StopsFor}
use Rattle.peer_hand.specs.Led.{IsLed, LeadsNowhere}
use Rattle.peer_hand.specs.Seen.{IsSeen}
use Rattle.peer_hand.specs.Words.{fault_json}
use Rattle.peer_hand.specs.declared.fault.HandFault.{HandFault}

module _ {S M : Type 0} (r : Rules S M) (words : Words S M) (looks : Looks) (bound : Shape → ℕ) (has_ended : Shape → Net S M → Type 0)
    (p : Protocol) (wake : WakeSet) (graph trace : List ℕ) where
  -- the text tells of the world to which two texts lead
  pub record IsToldOf (text : List ℕ) : Type 0 where
    pub world : WorldState
    pub led : IsLed r p wake graph trace world
    pub seen : IsSeen r words looks bound has_ended world text

  -- what is told of that world, or the fault for which there is none
  abbrev pub IsSeenAnswer : List ℕ → Type 0
  IsSeenAnswer text = IsToldOf text ⊎ ((fault : HandFault) × LeadsNowhere r p wake graph trace fault × (text ≡ fault_json fault))

module _ {S M : Type 0} (r : Rules S M) (has_ended : Shape → Net S M → Type 0) where
  -- the text is that of the run that goes on from a world by a seed, to its end
  abbrev pub IsTextOn : Protocol → ℕ → WorldState → List ℕ → Type 0
  IsTextOn p seed w text = (es : List Event) × HasGoneOn r has_ended seed w es × (text ≡ stored_text p es)

  -- the run that goes on from a world by a seed stops before its end
  abbrev pub StopsShort : ℕ → WorldState → HandFault → Type 0
  StopsShort seed w fault = (es : List Event) × StopsFor r has_ended seed w es fault

  module _ (p : Protocol) (wake : WakeSet) (graph trace : List ℕ) (seed : ℕ) where
    -- the same from the world to which two texts lead
    abbrev pub IsRunText : List ℕ → Type 0
    IsRunText text = (w : WorldState) × IsLed r p wake graph trace w × IsTextOn p seed w text

    abbrev pub HasNoRun : HandFault → Type 0
    HasNoRun fault = LeadsNowhere r p wake graph trace fault ⊎ ((w : WorldState) × IsLed r p wake graph trace w × StopsShort seed w fault)

    -- that run, or the fault for which there is none
    abbrev pub IsRunAnswer : List ℕ → Type 0
    IsRunAnswer text = IsRunText text ⊎ ((fault : HandFault) × HasNoRun fault × (text ≡ fault_json fault))
