-- Ledgers of a world.
use Rattle.std.specs.Prelude.{◌≡◌, ℕ, ◌+◌, ◌<◌, slice_index}
use Rattle.ghs_protocol.specs.Ledger.{waiting, waiting_of, in_all}
use Rattle.ghs_core.specs.NetState.{network}
use Rattle.ghs_core.specs.declared.ledger.Ledger.{Ledger}
use Rattle.ghs_world.specs.Outs.{messages_out}
use Rattle.ghs_world.specs.WorldState.{WorldState, home}

-- The ledger of the home view, in which the messages of tickets are counted apart; and that it balances: what was sent was consumed,
-- is out or is queued.
pub record IsWorldLedger (s : WorldState) (l : Ledger) : Type 0 where
  pub sent : (k : ℕ) → k < 7 → slice_index l.sent k ≡ (home s).sent k
  pub consumed : (k : ℕ) → k < 7 → slice_index l.consumed k ≡ (home s).consumed k
  pub requeued : l.requeued ≡ (home s).requeued
  pub out : l.out ≡ messages_out s.outs
  pub queued : l.queued + l.out ≡ waiting (network s.net) (home s)
  pub kinds : (k : ℕ) → k < 7 → slice_index l.sent k ≡ slice_index l.consumed k + waiting_of (network s.net) (home s) k
  pub balance : in_all (λ k. slice_index l.sent k) ≡ in_all (λ k. slice_index l.consumed k) + l.out + l.queued
