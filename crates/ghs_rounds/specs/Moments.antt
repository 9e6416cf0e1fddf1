-- Rounds by the moments of sending, as the literature has them: each message takes one unit of time, and computing none. In round 0 the nodes wake.
-- In each later round the messages that were sent before it are taken, in any order, but that one is put back only where none can be consumed. The
-- round is over when each of them was consumed, or waits, or stands behind one that was sent in the round.
use Rattle.std.specs.Prelude.{◌≡◌, ℕ, suc, ◌<◌, Bool, false, ◌&&◌, ◌==◌, nat_lt, Option, Some, None, List, [], ◌∷◌, ◌++◌, filter, length}
use Rattle.std.specs.List.{Contains, slice_get}
use Rattle.ghs_graph.specs.Graph.{Shape}
use Rattle.ghs_node.specs.declared.delta.Delta.{Delta}
use Rattle.ghs_node.specs.declared.delta.Fate.{Fate}
use Rattle.ghs_node.specs.declared.delta.Fate.TheVariants.{Consumed, Requeued}
use Rattle.ghs_node.specs.Reaction.{reaction}
use Rattle.ghs_node.specs.Words.{Outgoing}
use Rattle.peer_network.specs.declared.event.Event.{Event}
use Rattle.peer_network.specs.declared.event.Event.TheVariants.{Wake, Take}
use Rattle.peer_network.specs.Events.{event_node}
use Rattle.peer_network.specs.Network.{Network, network_of, port_at}
use Rattle.peer_network.specs.Updates.{put_at}
use Rattle.ghs_protocol.specs.Marks.{HasEnded}
use Rattle.ghs_protocol.specs.Net.{Net}
use Rattle.ghs_protocol.specs.Run.{net_after}
use Rattle.ghs_core.specs.NetState.{work_at}
use Rattle.peer_index.specs.Places.{all_events}
use Rattle.peer_schedule.specs.Picks.{IsPick}
use Rattle.peer_schedule.specs.Schedule.{next_of}
use Rattle.ghs_patient.specs.Patience.{moves_on, or_else, puts_back}

-- in which round each message that is under way was sent: for each port of a node, in the order of its queue
abbrev pub Moments : Type 0
Moments = ℕ → ℕ → List ℕ

-- nothing is under way
abbrev pub none_sent : Moments
none_sent v p = []

-- the first message of a queue was taken: it is gone; or it is the last now, and was sent when it was
abbrev pub first_taken : Fate → List ℕ → List ℕ
first_taken Consumed [] = []
first_taken Consumed (t ∷ ts) = ts
first_taken Requeued [] = []
first_taken Requeued (t ∷ ts) = ts ++ t ∷ []

abbrev pub taken_by : Event → Fate → Moments → Moments
taken_by (Wake v) f sent = sent
taken_by (Take v p) f sent = put_at sent v p (first_taken f (sent v p))

-- node v sends in round r: each message comes to the end of the queue at the far end of its port
abbrev pub sent_in : ℕ → Network → ℕ → Outgoing → Moments → Moments
sent_in r g v [] sent = sent
sent_in r g v (s ∷ ss) sent = let to = port_at g v s.0 in sent_in r g v ss (put_at sent to.far to.far_port (sent to.far to.far_port ++ r ∷ []))

-- the event happens in round r, with this reaction
abbrev pub moved : ℕ → Network → Event → Delta → Moments → Moments
moved r g e d sent = sent_in r g (event_node e) d.sends (taken_by e d.fate sent)

-- there is a message, and it was sent before round r
abbrev pub is_before : ℕ → Option ℕ → Bool
is_before r None = false
is_before r (Some t) = nat_lt t r

-- the event is a wake in round 0, or takes a message that was sent before the round
abbrev pub is_early : ℕ → Moments → Event → Bool
is_early r sent (Wake v) = r == 0
is_early r sent (Take v p) = is_before r (slice_get (sent v p) 0)

-- behind the message that it takes stands one that was sent before the round
abbrev pub is_before_early : ℕ → Moments → Event → Bool
is_before_early r sent (Wake v) = false
is_before_early r sent (Take v p) = is_before r (slice_get (sent v p) 1)

-- The events of round r: of what was sent before it a message is taken that doesn't wait; where there is none, one that waits makes way for one
-- behind it that was sent before the round. Where there is none of these either, the round is over.
abbrev pub round_of : (ℕ → Bool) → Network → Net → Moments → ℕ → List Event
round_of may g w sent r =
    or_else (filter (λ e. moves_on may g w e && is_early r sent e) (all_events g))
    (filter (λ e. puts_back w e && is_before_early r sent e) (all_events g))

-- the reaction of the event's node to the event
abbrev pub IsReaction : Net → Event → Delta → Type 0
IsReaction w e d = reaction (w.node (event_node e)) (work_at w e) ≡ Some d

-- A run that some events have brought to a round goes on by rounds, in whatever order: its events, which round it has come to, and when what is
-- under way was sent. Until it has ended an event of the round happens; where there is none, the next round begins.
pub data GoesByRounds (may : ℕ → Bool) (g : Shape) (start : List Event) (first : ℕ) (before : Moments) : List Event → ℕ → Moments → Type 0 where
  Stands : GoesByRounds may g start first before start first before
  Happened : (es : List Event) (r : ℕ) (sent : Moments) (e : Event) (d : Delta) → GoesByRounds may g start first before es r sent →
      (HasEnded g (net_after g es) → ⊥) → Contains (round_of may (network_of g) (net_after g es) sent r) e → IsReaction (net_after g es) e d →
      GoesByRounds may g start first before (es ++ e ∷ []) r (moved r (network_of g) e d sent)
  Passed : (es : List Event) (r : ℕ) (sent : Moments) → GoesByRounds may g start first before es r sent → (HasEnded g (net_after g es) → ⊥) →
      round_of may (network_of g) (net_after g es) sent r ≡ [] → GoesByRounds may g start first before es (suc r) sent

-- a run by rounds, from its opening on
abbrev pub IsByRounds : (ℕ → Bool) → Shape → List Event → ℕ → Moments → Type 0
IsByRounds may g es r sent = GoesByRounds may g [] 0 none_sent es r sent

-- A run by rounds from its opening on of which a schedule picks each event, as long as turns are left.
pub data IsPickedByMoments (may : ℕ → Bool) (g : Shape) (turns : ℕ) (words : List ℕ) : List Event → ℕ → List ℕ → Moments → Type 0 where
  Begun : IsPickedByMoments may g turns words [] 0 words none_sent
  Picked : (es : List Event) (r : ℕ) (s : List ℕ) (sent : Moments) (e : Event) (d : Delta) → IsPickedByMoments may g turns words es r s sent →
      (HasEnded g (net_after g es) → ⊥) → length es < turns → IsPick (round_of may (network_of g) (net_after g es) sent r) s e →
      IsReaction (net_after g es) e d → IsPickedByMoments may g turns words (es ++ e ∷ []) r (next_of s) (moved r (network_of g) e d sent)
  Over : (es : List Event) (r : ℕ) (s : List ℕ) (sent : Moments) → IsPickedByMoments may g turns words es r s sent →
      (HasEnded g (net_after g es) → ⊥) → length es < turns → round_of may (network_of g) (net_after g es) sent r ≡ [] →
      IsPickedByMoments may g turns words es (suc r) s sent
