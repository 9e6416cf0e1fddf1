use Rattle.std.proofs.Common.{◌++◌, ◌∙◌, ap, rules, slice_index}
use Rattle.ghs_core.specs.NetState.{net_of}
use Rattle.peer_page.proofs.lemmas.Counted.{same_line}
use Rattle.ghs_view.proofs.data.put_ledger.Goals as goal

pub returns : goal.returns
returns c =
    let w = net_of c.args.net.now in
    let l = c.ledger-counts.result in
    let counts = c.ledger-counts.ensures.counts in
    c.in_ok-put_counts.ensures
    ∙ ap (λ t. c.args.text.now.items ++ t)
    (same_line _ 7 _ _ (λ k. slice_index l.sent k) w.sent (λ k. slice_index l.consumed k) w.consumed _ _ _ _
    (search rules) c.events.ensures counts.sent counts.consumed counts.requeued counts.queued)
