-- Ledgers of a net.
use Rattle.std.specs.Prelude.{◌≡◌, ℕ, ◌+◌, ◌*◌, ◌<◌, ◌≤◌, length, slice_index}
use Rattle.ghs_graph.specs.Bound.{IsBound}
use Rattle.ghs_graph.specs.Graph.{Shape}
use Rattle.peer_network.specs.Network.{Network}
use Rattle.ghs_protocol.specs.Net.{Net}
use Rattle.ghs_protocol.specs.Ledger.{waiting, waiting_of, in_all}
use Rattle.ghs_core.specs.declared.ledger.Ledger.{Ledger}

-- the ledger of a net, and that it balances: what was sent was consumed or waits, kind by kind and over all kinds
pub record IsLedger (g : Network) (w : Net) (l : Ledger) : Type 0 where
  pub sent : (k : ℕ) → k < 7 → slice_index l.sent k ≡ w.sent k
  pub consumed : (k : ℕ) → k < 7 → slice_index l.consumed k ≡ w.consumed k
  pub requeued : l.requeued ≡ w.requeued
  pub queued : l.queued ≡ waiting g w
  pub out : l.out ≡ 0
  pub kinds : (k : ℕ) → k < 7 → slice_index l.sent k ≡ slice_index l.consumed k + waiting_of g w k
  pub balance : in_all (λ k. slice_index l.sent k) ≡ in_all (λ k. slice_index l.consumed k) + l.queued

-- the messages sent are within the bound for the graph, with twice the nodes to spare where there is more than one node
pub record IsWithinBound (g : Shape) (l : Ledger) : Type 0 where
  pub bound : (b : ℕ) → IsBound g.nodes (length g.keys) b → in_all (λ k. slice_index l.sent k) ≤ b
  pub spare : (b : ℕ) → 2 ≤ g.nodes → IsBound g.nodes (length g.keys) b → in_all (λ k. slice_index l.sent k) + 2 * g.nodes ≤ b
