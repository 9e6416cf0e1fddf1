use Rattle.std.proofs.Common.{◌++◌, ◌∙◌, ap, length, rules, slice_index}
use Rattle.peer_net.specs.NetState.{net_of}
use Rattle.peer_page.proofs.lemmas.Counted.{same_line}
use Rattle.peer_view.proofs.data.put_ledger.Goals as goal

pub returns : goal.returns
returns g c =
    let w = net_of g.P.Protocol.rules c.args.net.now in
    let l = c.ledger.result in
    let counts = c.ledger.ensures.counts in
    c.in_ok-put_counts.ensures
    ∙ ap (λ t. c.args.text.now.items ++ t)
    (same_line _ _ _ (length c.args.net.now.trace) (λ k. slice_index l.sent.now k) w.sent (λ k. slice_index l.consumed.now k) w.consumed _ _ _ _
    counts.sent_kinds (search rules) counts.sent counts.consumed counts.deferred counts.queued)
