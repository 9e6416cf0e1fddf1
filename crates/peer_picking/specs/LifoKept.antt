-- What is kept of a run from event to event, so that the message sent last is found without a look at all ports.
use Rattle.std.specs.Prelude.{◌≡◌, ◌≢◌, ℕ, suc, ◌≤◌, ◌^◌, Bool, true, false, nat_lt, List, length, slice_index, slice_set}
use Rattle.peer_network.specs.declared.event.Event.{Event}
use Rattle.peer_network.specs.declared.event.Event.TheVariants.{Wake, Take}
use Rattle.peer_network.specs.Network.{Network}
use Rattle.peer_index.specs.Index.{AreBases}
use Rattle.peer_index.specs.Places.{HasPlace, all_events, far_take, place}
use Rattle.peer_machine.specs.Rules.{Rules, Outgoing}
use Rattle.peer_machine.specs.Net.{Net}
use Rattle.peer_runs.specs.WorldState.{WorldState, HasPlayed, is_ready}
use Rattle.peer_net.specs.NetState.{NetState, network, net_of, AreSends}
use Rattle.peer_picking.specs.Newest.{Newest}
use Rattle.peer_picking.specs.LifoRuns.{newest_in}

-- the number of the last message that was sent to the port of a Take; of a Wake 0
abbrev pub last_to : Newest → Event → ℕ
last_to n (Wake v) = 0
last_to n (Take v p) = n.last v p

-- a message waits at the port of a Take
abbrev pub waits_at : {S M : Type 0} → Net S M → Event → Bool
waits_at w (Wake v) = false
waits_at w (Take v p) = nat_lt 0 (length (w.queue v p))

-- An event's rank: of a Take for which a message waits the number of the last message that was sent to its port, and else 0.
abbrev pub rank_if : Bool → ℕ → ℕ
rank_if true n = n
rank_if false n = 0

abbrev pub rank_in : {S M : Type 0} → Net S M → Newest → Event → ℕ
rank_in w n e = rank_if (waits_at w e) (last_to n e)

-- where the events of a network stand, how many messages were sent, and of each event, at its place, the rank
pub record LatestState : Type 0 where
  pub bases : List ℕ
  pub count : ℕ
  pub ranks : List ℕ

-- it is for the network
pub record IsFor (g : Network) (x : LatestState) : Type 0 where
  pub bases : AreBases g g.count x.bases
  pub many : length x.ranks ≡ length (all_events g)
  pub few : length (all_events g) ≤ 2 ^ 25

-- its ranks are those of a net
pub record AreRanks {S M : Type 0} (g : Network) (w : Net S M) (n : Newest) (x : LatestState) : Type 0 where
  pub is_for : IsFor g x
  pub count : x.count ≡ n.count
  pub rank : (f : Event) → HasPlace g f → slice_index x.ranks (place g f) ≡ rank_in w n f

-- the same, but that of event e is as if a message waited
pub record AreRanksBut {S M : Type 0} (g : Network) (e : Event) (w : Net S M) (n : Newest) (x : LatestState) : Type 0 where
  pub is_for : IsFor g x
  pub count : x.count ≡ n.count
  pub rank : (f : Event) → HasPlace g f → f ≢ e → slice_index x.ranks (place g f) ≡ rank_in w n f
  pub own : slice_index x.ranks (place g e) ≡ last_to n e

-- a message more at the far end of port p of node v
abbrev pub with_one : Network → ℕ → ℕ → LatestState → LatestState
with_one g v p x = record x { count = suc x.count; ranks = slice_set x.ranks (place g (far_take g v p)) (suc x.count) }

-- they are those of a world's net
abbrev pub AreLatest : {S M : Type 0} → Rules S M → NetState → LatestState → Type 0
AreLatest r s x = AreRanks (network s) (net_of r s) (newest_in r s) x

-- they are those of a world before its last event, with which its node has sent these
pub record AreLatestBefore {S M : Type 0} (r : Rules S M) (t : WorldState) (e : Event) (ss : Outgoing M) (x : LatestState) : Type 0 where
  pub before : WorldState
  pub ready : is_ready r before e ≡ true
  pub played : HasPlayed r before e t
  pub sends : AreSends r before.net e ss
  pub latest : AreLatest r before.net x
