-- What holds of the parts of every run, under any rules and words.
use Rattle.std.specs.Prelude.{◌≡◌, ℕ, List, length}
use Rattle.std.specs.List.{sum_by}
use Rattle.ghs_graph.specs.Graph.{Shape}
use Rattle.peer_network.specs.declared.event.Event.{Event}
use Rattle.peer_network.specs.Network.{network_of}
use Rattle.peer_network.specs.Sums.{sum_over_nodes}
use Rattle.peer_machine.specs.Rules.{Rules}
use Rattle.peer_machine.specs.Net.{Net}
use Rattle.peer_machine.specs.Run.{IsAfter}
use Rattle.peer_words.specs.Words.{Words}
use Rattle.peer_parts.specs.declared.rows.RowCount.{RowCount}
use Rattle.peer_parts.specs.Parts.{row_parts, sent_by_node}

module _ {S M : Type 0} (r : Rules S M) (words : Words S M) where
  -- what all nodes of a run have sent of kind k is what was sent of it
  abbrev pub NodesAddUp : Type 0
  NodesAddUp =
      (g : Shape) (es : List Event) (w : Net S M) (k : ℕ) → IsAfter r (network_of g) es w →
      sum_over_nodes (network_of g) (λ v. sent_by_node r words g es v k) ≡ w.sent k

  -- all rows of a run together applied as often as events happened
  abbrev pub RowsAddUp : Type 0
  RowsAddUp =
      (g : Shape) (es : List Event) (w : Net S M) → IsAfter r (network_of g) es w →
      sum_by (λ (x : RowCount). x.times) (row_parts r words g es) ≡ length es
