-- The texts that answer a page, and how they are handed over.
use Rattle.std.specs.Prelude.{◌≡◌, ◌⊎◌, ℕ, Bool, List}
use Rattle.peer_network.specs.declared.event.Event.{Event}
use Rattle.peer_texts.specs.Text.{trace_text}
use Rattle.peer_network.specs.declared.wake_set.WakeSet.{WakeSet}
use Rattle.ghs_world.specs.WorldState.{WorldState}
use Rattle.peer_hand.specs.Words.{fault_json}
use Rattle.peer_hand.specs.declared.fault.HandFault.{HandFault}
use Rattle.ghs_hand.specs.Led.{IsLed, LeadsNowhere}
use Rattle.ghs_hand.specs.Seen.{IsSeen}
use Rattle.ghs_hand.specs.Going.{HasGoneOn, StopsFor}

-- the text tells of the world to which two texts lead
pub record IsToldOf (wake : WakeSet) (graph trace text : List ℕ) : Type 0 where
  pub world : WorldState
  pub led : IsLed wake graph trace world
  pub seen : IsSeen world text

-- what is told of that world, or the fault for which there is none
abbrev pub IsSeenAnswer : WakeSet → List ℕ → List ℕ → List ℕ → Type 0
IsSeenAnswer wake graph trace text =
    IsToldOf wake graph trace text ⊎ ((fault : HandFault) × LeadsNowhere wake graph trace fault × (text ≡ fault_json fault))

-- the text is that of the run that goes on from a world by a seed, to its end
abbrev pub IsTextOn : Bool → ℕ → WorldState → List ℕ → Type 0
IsTextOn patient seed w text = (es : List Event) × HasGoneOn patient seed w es × (text ≡ trace_text es)

-- the run that goes on from a world by a seed stops before its end
abbrev pub StopsShort : Bool → ℕ → WorldState → HandFault → Type 0
StopsShort patient seed w fault = (es : List Event) × StopsFor patient seed w es fault

-- the same from the world to which two texts lead
abbrev pub IsRunText : WakeSet → List ℕ → List ℕ → Bool → ℕ → List ℕ → Type 0
IsRunText wake graph trace patient seed text = (w : WorldState) × IsLed wake graph trace w × IsTextOn patient seed w text

abbrev pub HasNoRun : WakeSet → List ℕ → List ℕ → Bool → ℕ → HandFault → Type 0
HasNoRun wake graph trace patient seed fault =
    LeadsNowhere wake graph trace fault ⊎ ((w : WorldState) × IsLed wake graph trace w × StopsShort patient seed w fault)

-- that run, or the fault for which there is none
abbrev pub IsRunAnswer : WakeSet → List ℕ → List ℕ → Bool → ℕ → List ℕ → Type 0
IsRunAnswer wake graph trace patient seed text =
    IsRunText wake graph trace patient seed text ⊎ ((fault : HandFault) × HasNoRun wake graph trace patient seed fault × (text ≡ fault_json fault))
