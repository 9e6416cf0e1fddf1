-- What is kept of a run by rounds, so that an event of the round is found without a look at all ports.
use Rattle.std.specs.Prelude.{◌≡◌, ◌⊎◌, ℕ, suc, ◌+◌, ◌-◌, ◌<◌, ◌≤◌, false, nat_lt, List, [], ◌∷◌, ◌++◌, length, replicate, slice_index, slice_set}
use Rattle.std.specs.List.{Contains}
use Rattle.peer_network.specs.declared.event.Event.{Event}
use Rattle.peer_network.specs.declared.event.Event.TheVariants.{Wake, Take}
use Rattle.peer_network.specs.Network.{Network, At}
use Rattle.peer_index.specs.Index.{IndexState, IsIndexOf}
use Rattle.peer_index.specs.Places.{HasPlace, all_events, far_take, place}
use Rattle.peer_machine.specs.Rules.{Rules, Outgoing}
use Rattle.peer_net.specs.NetState.{AreSends, network}
use Rattle.peer_runs.specs.WorldState.{WorldState, HasPlayed, is_ready}
use Rattle.peer_chains.specs.Chains.{Chains}
use Rattle.peer_lengths.specs.Chain.{numbers_of}
use Rattle.peer_picking.specs.Runs.{round_events}

-- how many times each event may happen within a round, at its place, and an index of those that may
pub record RoundState : Type 0 where
  pub counts : List ℕ
  pub index : IndexState

abbrev pub count_of : Network → RoundState → Event → ℕ
count_of g x e = slice_index x.counts (place g e)

-- the marked events are those that are counted
pub record IsRound (g : Network) (x : RoundState) : Type 0 where
  pub many : length x.counts ≡ length (all_events g)
  pub index : IsIndexOf g (λ e. nat_lt 0 (count_of g x e)) x.index

-- the same, but that event e is counted so many times
abbrev pub with_count : Network → Event → ℕ → RoundState → RoundState
with_count g e n x = record {
  counts = slice_set x.counts (place g e) n;
  index = record x.index { marks = slice_set x.index.marks (place g e) (nat_lt 0 n) };
}

-- which round it is, the messages that arrive in it, with the wakes, and those that arrive in the next
pub record RoundsState : Type 0 where
  pub round : ℕ
  pub here : RoundState
  pub next : RoundState

-- Of each port: the messages that wait there, by how long the chain is that each ends. Those of this round come first, and behind them those that
-- were sent within it. No chain that has led to a node is longer than there were rounds.
pub record AreCounted (g : Network) (c : Chains) (n : ℕ) (here next : ℕ → ℕ → ℕ) : Type 0 where
  pub node : (v : ℕ) → c.node v ≤ n
  pub queue : (v p : ℕ) → At g v p → c.queue v p ≡ replicate (here v p) n ++ replicate (next v p) (suc n)

-- at each port, how many messages a round has
abbrev pub taken_in : Network → RoundState → ℕ → ℕ → ℕ
taken_in g x v p = count_of g x (Take v p)

-- the wakes of a world are of its round: a node that may wake is counted once, and only in round 0
pub record AreWakes {S M : Type 0} (r : Rules S M) (s : WorldState) (x : RoundsState) : Type 0 where
  pub here : (v : ℕ) → HasPlace (network s.net) (Wake v) → nat_lt 0 (count_of (network s.net) x.here (Wake v)) ≡ is_ready r s (Wake v)
  pub next : (v : ℕ) → HasPlace (network s.net) (Wake v) → count_of (network s.net) x.next (Wake v) ≡ 0
  pub first : (x.round ≡ 0) ⊎ ((v : ℕ) → HasPlace (network s.net) (Wake v) → is_ready r s (Wake v) ≡ false)

-- they are those of a world
pub record AreRounds {S M : Type 0} (r : Rules S M) (s : WorldState) (x : RoundsState) : Type 0 where
  pub here : IsRound (network s.net) x.here
  pub next : IsRound (network s.net) x.next
  pub ports :
      AreCounted (network s.net) (numbers_of r (network s.net) s.net.trace) x.round (taken_in (network s.net) x.here)
      (taken_in (network s.net) x.next)
  pub wakes : AreWakes r s x

-- at the opening of a world: each wake that is ready is counted once, and no Take
pub record HasOpened {S M : Type 0} (r : Rules S M) (s : WorldState) (x : RoundState) : Type 0 where
  pub round : IsRound (network s.net) x
  pub wakes : (v : ℕ) → HasPlace (network s.net) (Wake v) → nat_lt 0 (count_of (network s.net) x (Wake v)) ≡ is_ready r s (Wake v)
  pub takes : (v p : ℕ) → At (network s.net) v p → count_of (network s.net) x (Take v p) ≡ 0

-- the wake of an event's node is gone, and the message that the event takes
abbrev pub without : Network → Event → RoundState → RoundState
without g (Wake v) x = with_count g (Wake v) 0 x
without g (Take v p) x =
    let y = with_count g (Wake v) 0 x in
    with_count g (Take v p) (count_of g y (Take v p) - 1) y

-- a message more for each that node v sends, at the far end of its port
abbrev pub sent_to : {M : Type 0} → Network → ℕ → Outgoing M → RoundState → RoundState
sent_to g v [] x = x
sent_to g v (s ∷ ss) x = sent_to g v ss (with_count g (far_take g v s.0) (suc (count_of g x (far_take g v s.0))) x)

-- the round has an event: it is the same, or the next, where it had none; then what was to come is here
pub record HasSettled {S M : Type 0} (r : Rules S M) (s : WorldState) (old new : RoundsState) : Type 0 where
  pub rounds : AreRounds r s new
  pub some : 0 < length (round_events r s new.round)
  pub round : (new.round ≡ old.round) ⊎ ((new.round ≡ old.round + 1) × (round_events r s old.round ≡ []))

-- they are those of a world before its last event, which was of the round, and with which its node has sent these
pub record AreRoundsBefore {S M : Type 0} (r : Rules S M) (t : WorldState) (e : Event) (ss : Outgoing M) (x : RoundsState) : Type 0 where
  pub before : WorldState
  pub of_round : Contains (round_events r before x.round) e
  pub played : HasPlayed r before e t
  pub sends : AreSends r before.net e ss
  pub rounds : AreRounds r before x
