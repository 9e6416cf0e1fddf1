-- The figures of a run of GHS.
use Rattle.std.specs.Prelude.{◌≡◌, ℕ, ◌<◌, ◌≤◌, ◌↔◌, true, max, List, Some, length, slice_index}
use Rattle.std.specs.List.{fold}
use Rattle.ghs_graph.specs.declared.key.Key.{Key}
use Rattle.ghs_graph.specs.Bound.{IsBound}
use Rattle.ghs_graph.specs.Graph.{Shape}
use Rattle.ghs_graph.specs.Links.{total_weight}
use Rattle.peer_network.specs.declared.event.Event.{Event}
use Rattle.ghs_protocol.specs.Ledger.{in_all, waiting}
use Rattle.ghs_protocol.specs.Marks.{HasEnded}
use Rattle.ghs_protocol.specs.Net.{Net}
use Rattle.peer_network.specs.Network.{network_of}
use Rattle.ghs_protocol.specs.Run.{net_after}
use Rattle.ghs_core.specs.Census.{IsCensus}
use Rattle.ghs_core.specs.Marked.{AreBranches}
use Rattle.ghs_core.specs.declared.census.FragmentRow.{FragmentRow}
use Rattle.ghs_picking.specs.Lengths.{lengths_of}
use Rattle.peer_lengths.specs.declared.lengths.Lengths.{Lengths}
use Rattle.peer_sweep.specs.declared.figures.Figures.{Figures}
use Rattle.peer_sweep.specs.Figures.{LeavesRoom}

-- the greatest level of some fragments
abbrev pub greatest_level : List FragmentRow → ℕ
greatest_level rows = fold (λ most row. max most row.level) 0 rows

-- the messages: how many were sent, of all kinds and of each, were requeued, and wait
pub record AreMessages (g : Shape) (w : Net) (f : Figures) : Type 0 where
  pub sent : f.sent ≡ in_all w.sent
  pub kinds : (k : ℕ) → k < 7 → slice_index f.kinds k ≡ w.sent k
  pub requeued : f.requeued ≡ w.requeued
  pub queued : f.queued ≡ waiting (network_of g) w
  pub bound : IsBound g.nodes (length g.keys) f.bound
  pub within : f.sent ≤ f.bound

-- the fragments, their greatest level, and the weight of the Branch links
pub record AreLinksAndFragments (g : Shape) (w : Net) (f : Figures) : Type 0 where
  pub rows : List FragmentRow
  pub census : IsCensus (network_of g) w rows
  pub fragments : f.fragments ≡ Some (length rows)
  pub level : f.level ≡ Some (greatest_level rows)
  pub branches : List Key
  pub all : AreBranches (network_of g) w branches
  pub weight : f.weight ≡ Some (total_weight branches)

-- how long the run of some events is: its longest chain, its bits, and its longest message
pub record AreLengths (g : Shape) (es : List Event) (l : Lengths) : Type 0 where
  pub chain : l.chain ≡ (lengths_of g es).chain
  pub bits : l.bits ≡ (lengths_of g es).bits
  pub longest : l.longest ≡ (lengths_of g es).longest

-- the figures of the net after some events, and how long the run of these events is
pub record AreFigures (g : Shape) (es : List Event) (f : Figures) : Type 0 where
  pub nodes : f.nodes ≡ g.nodes
  pub links : f.links ≡ length g.keys
  pub events : f.events ≡ length es
  pub messages : AreMessages g (net_after g es) f
  pub marks : AreLinksAndFragments g (net_after g es) f
  pub ended : (f.ended ≡ true) ↔ HasEnded g (net_after g es)
  pub lengths : AreLengths g es f.lengths
  pub room : LeavesRoom f
