-- Ledgers of a net.
use Rattle.std.specs.Prelude.{◌≡◌, ℕ, ◌+◌, ◌<◌, ◌≤◌, length, slice_index}
use Rattle.peer_network.specs.Network.{Network}
use Rattle.peer_machine.specs.Rules.{Rules}
use Rattle.peer_machine.specs.Net.{Net}
use Rattle.peer_machine.specs.Ledger.{waiting, waiting_of, in_all}
use Rattle.peer_net.specs.declared.ledger.Ledger.{Ledger}

-- the ledger of a net, and that it balances: what was sent was consumed or waits, kind by kind and over all kinds
pub record IsLedger {S M : Type 0} (r : Rules S M) (g : Network) (w : Net S M) (l : Ledger) : Type 0 where
  pub sent_kinds : length l.sent.now ≡ r.kinds
  pub consumed_kinds : length l.consumed.now ≡ r.kinds
  pub sent : (k : ℕ) → k < r.kinds → slice_index l.sent.now k ≡ w.sent k
  pub consumed : (k : ℕ) → k < r.kinds → slice_index l.consumed.now k ≡ w.consumed k
  pub queued : l.queued ≡ waiting g w
  pub deferred : l.deferred ≡ w.deferred
  pub kinds : (k : ℕ) → k < r.kinds → slice_index l.sent.now k ≡ slice_index l.consumed.now k + waiting_of r g w k
  pub balance : in_all r (λ k. slice_index l.sent.now k) ≡ in_all r (λ k. slice_index l.consumed.now k) + l.queued

-- the messages sent are within a bound
abbrev pub IsWithin : {S M : Type 0} → Rules S M → ℕ → Ledger → Type 0
IsWithin r bound l = in_all r (λ k. slice_index l.sent.now k) ≤ bound
