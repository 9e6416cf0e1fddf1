-- What is kept of a run from event to event, so that the message sent last is found without a look at all ports.
use Rattle.std.specs.Prelude.{◌≡◌, ℕ, suc, ◌≤◌, Bool, true, false, List, [], ◌∷◌, length, slice_index, slice_set}
use Rattle.ghs_node.specs.declared.delta.Delta.{Delta}
use Rattle.ghs_node.specs.declared.head.Head.{Head}
use Rattle.ghs_node.specs.Words.{Outgoing}
use Rattle.peer_network.specs.declared.event.Event.{Event}
use Rattle.peer_network.specs.declared.event.Event.TheVariants.{Wake, Take}
use Rattle.peer_network.specs.Network.{At, Network, far_port, far}
use Rattle.ghs_protocol.specs.Net.{Net}
use Rattle.peer_network.specs.Events.{event_node}
use Rattle.ghs_core.specs.NetState.{network}
use Rattle.peer_index.specs.Index.{AreBases}
use Rattle.peer_index.specs.Places.{HasPlace, all_events, place}
use Rattle.ghs_world.specs.WorldState.{WorldState, home, wakers}
use Rattle.ghs_patient.specs.Choices.{AreChoices, AreChoicesBut, ChoicesState, IsStirred}
use Rattle.ghs_patient.specs.Patience.{moves_on}
use Rattle.ghs_patient.specs.Walks.{on_each, on_takes}
use Rattle.ghs_orders.specs.Newest.{Newest, sent}
use Rattle.ghs_orders.specs.LifoRuns.{newest_in}

-- The numbers of messages: where the events of a network stand, how many messages were sent, and at the place of each Take the number of the last one
-- that was sent to its port.
pub record NumbersState : Type 0 where
  pub bases : List ℕ
  pub count : ℕ
  pub newest : List ℕ

-- there is one for each event of the network, and none is greater than messages were sent
pub record AreFor (g : Network) (k : NumbersState) : Type 0 where
  pub bases : AreBases g g.count k.bases
  pub many : length k.newest ≡ length (all_events g)
  pub most : (i : ℕ) → slice_index k.newest i ≤ k.count

-- they are these
pub record AreNumbers (g : Network) (n : Newest) (k : NumbersState) : Type 0 where
  pub for_all : AreFor g k
  pub count : k.count ≡ n.count
  pub last : (v p : ℕ) → At g v p → slice_index k.newest (place g (Take v p)) ≡ n.last v p

-- a message more at the far end of port p of node v, and several
abbrev pub with_one : Network → ℕ → ℕ → NumbersState → NumbersState
with_one g v p k = record k { count = suc k.count; newest = slice_set k.newest (place g (Take (far g v p) (far_port g v p))) (suc k.count) }

abbrev pub with_all : Network → ℕ → Outgoing → NumbersState → NumbersState
with_all g v [] k = k
with_all g v (s ∷ ss) k = with_all g v ss (with_one g v s.0 k)

-- An event's rank: of a Take that moves the run on one more than the number of the last message that was sent to its port, and else 0.
abbrev pub rank_if : Bool → ℕ → ℕ
rank_if true n = suc n
rank_if false n = 0

abbrev pub rank_by : (ℕ → Bool) → Network → Net → List ℕ → Event → ℕ
rank_by may g w newest (Wake v) = 0
rank_by may g w newest (Take v p) = rank_if (moves_on may g w (Take v p)) (slice_index newest (place g (Take v p)))

abbrev pub rank_in : WorldState → List ℕ → Event → ℕ
rank_in s newest e = rank_by (wakers s) (network s.net) (home s) newest e

-- the ranks of a world's events, at their places, but perhaps for some events
pub record AreRanksBut (s : WorldState) (newest : List ℕ) (wrong : Event → Type 0) (ranks : List ℕ) : Type 0 where
  pub many : length ranks ≡ length (all_events (network s.net))
  pub rank : (e : Event) → HasPlace (network s.net) e → (wrong e → ⊥) → slice_index ranks (place (network s.net) e) ≡ rank_in s newest e

-- for none
pub record AreRanks (s : WorldState) (newest : List ℕ) (ranks : List ℕ) : Type 0 where
  pub many : length ranks ≡ length (all_events (network s.net))
  pub rank : (e : Event) → HasPlace (network s.net) e → slice_index ranks (place (network s.net) e) ≡ rank_in s newest e

-- the right rank of one event, of the Takes at the first ports of a node, and of several events
abbrev pub ranked : WorldState → List ℕ → Event → List ℕ → List ℕ
ranked s newest e ranks = slice_set ranks (place (network s.net) e) (rank_in s newest e)

abbrev pub ranked_to : WorldState → List ℕ → ℕ → ℕ → List ℕ → List ℕ
ranked_to s newest v n ranks = on_takes (ranked s newest) v n ranks

abbrev pub ranked_all : WorldState → List ℕ → List Event → List ℕ → List ℕ
ranked_all s newest es ranks = on_each (ranked s newest) es ranks

-- the Takes whose rank an event may change; a wake's is always 0
abbrev pub IsUnranked : Network → Event → Head → Delta → Event → Type 0
IsUnranked g e before d (Wake u) = ⊥
IsUnranked g e before d (Take u q) = IsStirred g e before d (Take u q)

-- the events that a patient schedule picks from, the numbers, and the ranks
pub record LatestState : Type 0 where
  pub choices : ChoicesState
  pub numbers : NumbersState
  pub ranks : List ℕ

-- they are those of a world
pub record AreLatest (s : WorldState) (x : LatestState) : Type 0 where
  pub choices : AreChoices s x.choices
  pub numbers : AreNumbers (network s.net) (newest_in s) x.numbers
  pub ranks : AreRanks s x.numbers.newest x.ranks

-- they are those of a world before its last event
pub record AreLatestBefore (s : WorldState) (e : Event) (before : Head) (d : Delta) (x : LatestState) : Type 0 where
  pub choices : AreChoicesBut s (IsStirred (network s.net) e before d) x.choices
  pub newest : Newest
  pub numbers : AreNumbers (network s.net) newest x.numbers
  pub grown : newest_in s ≡ sent (network s.net) (event_node e) d.sends newest
  pub ranks : AreRanksBut s x.numbers.newest (IsUnranked (network s.net) e before d) x.ranks
