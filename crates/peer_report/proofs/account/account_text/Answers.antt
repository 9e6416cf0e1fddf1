use Rattle.std.proofs.Common.{◌++◌, ◌∙◌, ap, refl, rules}
use Rattle.peer_net.specs.NetState.{net_of}
use Rattle.peer_report.specs.Account.{account_lines}
use Rattle.peer_report.proofs.account.account_text.Goals as goal

pub returns-clause-text : goal.returns-clause-text
returns-clause-text g c =
    let r = g.P.Protocol.rules in
    let lines = account_lines r g.P.Spoken.words.kind g.P.Protocol.bound c.args.net.now.graph (net_of r c.args.net.now) in
    record {
      within = c.in_ok-put_account.ensures.within;
      printed = c.in_ok-put_account.ensures.account ∙ ap (λ l. l ++ lines) c.new-text.ensures.items;
    }

pub returns-clause-not_ended : goal.returns-clause-not_ended
returns-clause-not_ended g c = (λ e. search rules, λ goes_on. absurd (goes_on (c.if-not-net_ended.ensures.0 refl)))
