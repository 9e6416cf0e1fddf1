-- Counts of messages.
use Rattle.std.specs.Prelude.{◌≡◌, ℕ, ◌+◌, ◌<◌, ◌==◌, Bool, length, replicate, slice_index, if◌then◌else◌}
use Rattle.peer_machine.specs.Rules.{Rules, Outgoing, messages}
use Rattle.peer_machine.specs.Ledger.{of_kind}
use Rattle.peer_net.specs.declared.counts.Counts.{Counts}

-- nothing was counted yet
pub record AreNone (kinds : ℕ) (c : Counts) : Type 0 where
  pub sent : c.sent.items ≡ replicate kinds 0
  pub consumed : c.consumed.items ≡ replicate kinds 0
  pub deferred : c.deferred ≡ 0

-- messages are counted as sent, by their kinds
pub record CountsSends {S M : Type 0} (r : Rules S M) (ss : Outgoing M) (old new : Counts) : Type 0 where
  pub kinds : length new.sent.items ≡ length old.sent.items
  pub sent : (k : ℕ) → k < r.kinds → slice_index new.sent.items k ≡ slice_index old.sent.items k + of_kind r k (messages ss)
  pub consumed : new.consumed.items ≡ old.consumed.items
  pub deferred : new.deferred ≡ old.deferred

-- a message that is taken is counted: as deferred, or as consumed, by its kind
pub record CountsTake {S M : Type 0} (r : Rules S M) (later : Bool) (m : M) (old new : Counts) : Type 0 where
  pub sent : new.sent.items ≡ old.sent.items
  pub kinds : length new.consumed.items ≡ length old.consumed.items
  pub consumed : (k : ℕ) → k < r.kinds →
      slice_index new.consumed.items k ≡ slice_index old.consumed.items k + (if later then 0 else if r.kind_of m == k then 1 else 0)
  pub deferred : new.deferred ≡ old.deferred + (if later then 1 else 0)
