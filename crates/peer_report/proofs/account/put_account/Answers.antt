use Rattle.std.proofs.Common.{slice_index, ◌∙◌, ap}
use Rattle.peer_net.specs.NetState.{net_of}
use Rattle.peer_report.proofs.Printing.{account_put, within_put}
use Rattle.peer_report.proofs.account.put_account.Goals as goal

pub returns-clause-account : goal.returns-clause-account
returns-clause-account g c =
    let counts = c.ledger.ensures.counts in
    let r = g.P.Protocol.rules in
    account_put r g.P.Spoken.words.kind g.P.Protocol.bound c.args.net.now.graph (net_of r c.args.net.now)
    (λ k. slice_index c.ledger.result.sent.now k) _ c.in_total.result c.bound_of-most.result c.args.text.now.items c.put_kinds.new.text.items
    c.put_sends.new.text.items counts.sent_kinds counts.sent c.in_total.ensures
    (c.bound_of-most.ensures ∙ ap g.P.Protocol.bound c.graph.ensures) c.in_ok-put_kinds.ensures c.in_ok-put_sends.ensures

pub returns-clause-within : goal.returns-clause-within
returns-clause-within g c =
    let r = g.P.Protocol.rules in
    within_put r (net_of r c.args.net.now) (λ k. slice_index c.ledger.result.sent.now k) (g.P.Protocol.bound c.args.net.now.graph)
    c.ledger.ensures.counts.sent c.ledger.ensures.bound
