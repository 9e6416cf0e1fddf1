use Rattle.std.proofs.Common.{◌∙◌, slice_index, ap}
use Rattle.peer_network.specs.Sums.{sum_below}
use Rattle.peer_network.proofs.lemmas.Sums.{sum_same}
use Rattle.peer_steps.proofs.write.total.Goals as goal

pub returns : goal.returns
returns g c =
    let counts = c.ledger.ensures.counts in
    c.in_total.ensures ∙ (ap (λ n. sum_below n (λ k. slice_index c.ledger.result.sent.now k)) counts.sent_kinds ∙ sum_same _ _ _ counts.sent)
