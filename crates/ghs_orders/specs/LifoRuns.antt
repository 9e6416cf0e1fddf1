-- Runs that take first what was sent last: what they leave of a world and a schedule.
use Rattle.std.specs.Prelude.{◌≡◌, ℕ, Bool, ◌<◌, ◌⊎◌, List, [], ◌∷◌, ◌++◌, length}
use Rattle.ghs_graph.specs.Graph.{Shape}
use Rattle.peer_network.specs.declared.event.Event.{Event}
use Rattle.ghs_protocol.specs.Marks.{HasEnded}
use Rattle.peer_network.specs.Network.{network_of}
use Rattle.ghs_protocol.specs.Run.{net_after}
use Rattle.ghs_core.specs.NetState.{network}
use Rattle.ghs_world.specs.WorldState.{WorldState, home, wakers}
use Rattle.peer_schedule.specs.Picks.{IsPick}
use Rattle.ghs_sched.specs.Runs.{HasRunBy}
use Rattle.peer_schedule.specs.Schedule.{next_of}
use Rattle.ghs_patient.specs.Choices.{patient_in}
use Rattle.ghs_patient.specs.Patience.{patient_events}
use Rattle.ghs_orders.specs.Latest.{IsLatest, NoTakeMoves}
use Rattle.ghs_orders.specs.Newest.{Newest, newest_of}

-- The events by which a trace has grown, and the schedule's state then. Each happened where the run hadn't ended and turns were left:
-- the Take at the port to which a message was sent last, of those whose first message would be consumed, with no word of the schedule;
-- where there was none, what the next word picked, a wake, or the Take of a message to be put back behind which stands one that would
-- be consumed.
pub data IsPickedLast (may : ℕ → Bool) (g : Shape) (turns : ℕ) (trace : List Event) (words : List ℕ) : List Event → List ℕ → Type 0 where
  Begun : IsPickedLast may g turns trace words trace words
  Latest : (es : List Event) (s : List ℕ) (e : Event) → IsPickedLast may g turns trace words es s →
      (HasEnded g (net_after g es) → ⊥) → length es < turns →
      IsLatest may (network_of g) (net_after g es) (newest_of (network_of g) es) e →
      IsPickedLast may g turns trace words (es ++ e ∷ []) s
  Picked : (es : List Event) (s : List ℕ) (e : Event) → IsPickedLast may g turns trace words es s →
      (HasEnded g (net_after g es) → ⊥) → length es < turns →
      NoTakeMoves may (network_of g) (net_after g es) → IsPick (patient_events may (network_of g) (net_after g es)) s e →
      IsPickedLast may g turns trace words (es ++ e ∷ []) (next_of s)

-- the same, from a world on
abbrev pub IsPickedFrom : WorldState → List ℕ → List Event → List ℕ → Type 0
IsPickedFrom old words es after = IsPickedLast (wakers old) old.net.graph old.turns old.net.trace words es after

-- a world has run on so
abbrev pub HasRun : WorldState → WorldState → List ℕ → List ℕ → Type 0
HasRun old new words after = HasRunBy (IsPickedFrom old words) old new after

-- the same of a world: the numbers of its net's messages, which Take is the latest, and whether none moves the run on
abbrev pub newest_in : WorldState → Newest
newest_in s = newest_of (network s.net) s.net.trace

abbrev pub IsLatestIn : WorldState → Event → Type 0
IsLatestIn s e = IsLatest (wakers s) (network s.net) (home s) (newest_in s) e

abbrev pub NoTakeMovesIn : WorldState → Type 0
NoTakeMovesIn s = NoTakeMoves (wakers s) (network s.net) (home s)

-- the event is the next of such a run, and leaves these words
abbrev pub IsNext : WorldState → List ℕ → Event → List ℕ → Type 0
IsNext s words e after = (IsLatestIn s e × (after ≡ words)) ⊎ (NoTakeMovesIn s × IsPick (patient_in s) words e × (after ≡ next_of words))
