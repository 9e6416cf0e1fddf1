-- All parts of a run have what was sent, and all rows its events.
use Rattle.std.proofs.Common.{◌≡◌, ℕ, suc, ◌+◌, List, [], length, ◌∙◌, ap, arith}
use Rattle.std.specs.List.{sum_by}
use Rattle.ghs_graph.specs.Graph.{Shape}
use Rattle.peer_network.specs.declared.event.Event.{Event}
use Rattle.peer_network.specs.Network.{network_of}
use Rattle.peer_network.proofs.lemmas.Sums.{sum_same}
use Rattle.peer_machine.specs.Rules.{Rules}
use Rattle.peer_machine.specs.Net.{Net}
use Rattle.peer_machine.specs.Run.{IsAfter}
use Rattle.peer_words.specs.Words.{Words}
use Rattle.peer_parts.specs.Deeds.{Deed, deeds, sent_of}
use Rattle.peer_parts.specs.Laws.{NodesAddUp, RowsAddUp}
use Rattle.peer_parts.specs.Parts.{node_of, sum_in}
use Rattle.peer_parts.proofs.Doing.{run_done}
use Rattle.peer_parts.proofs.EachRow.{all_rows}
use Rattle.peer_parts.proofs.lemmas.Summing.{all_parts}

module _ {S M : Type 0} (r : Rules S M) (words : Words S M) where
  -- what the deeds of a run have sent of kind k
  pub all_sent_of : (g : Shape) (es : List Event) (w : Net S M) (k : ℕ) → IsAfter r (network_of g) es w →
      sum_by (sent_of r k) (deeds r words (network_of g) es) ≡ w.sent k
  all_sent_of g es w k h =
      let sum = (run_done r words (network_of g) k es w h).sends in
      omega (arith, sum)

  pub nodes_add_up : NodesAddUp r words
  nodes_add_up g es w k h =
      let n = network_of g in
      let ds = deeds r words n es in
      let done = run_done r words n k es w h in
      let same = sum_same g.nodes (λ i. sum_in node_of (suc i) (sent_of r k) ds) (λ i. sum_in node_of (1 + i) (sent_of r k) ds)
      (λ i lt. ap (λ p. sum_in node_of p (sent_of r k) ds) (next i)) in
      same ∙ all_parts node_of 1 g.nodes (sent_of r k) ds (done.within tt) ∙ all_sent_of g es w k h
    where
      next : (i : ℕ) → suc i ≡ 1 + i
      next i = omega arith

  pub rows_add_up : RowsAddUp r words
  rows_add_up g es w h =
      let n = network_of g in
      let count = (run_done r words n 0 es w h).count in
      let none : length {A = Deed M} [] + length es ≡ length es = omega arith in
      all_rows (deeds r words n es) ∙ count ∙ none
