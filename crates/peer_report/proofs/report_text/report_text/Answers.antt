use Rattle.std.proofs.Common.{◌++◌, ◌∙◌, ap, refl, rules}
use Rattle.ghs_report.specs.TreeText.{tree_text}
use Rattle.peer_net.specs.NetState.{net_of}
use Rattle.peer_report.specs.Account.{account_lines}
use Rattle.peer_report.proofs.report_text.report_text.Goals as goal

pub returns-clause-not_ended : goal.returns-clause-not_ended
returns-clause-not_ended g c = (λ e. search rules, λ goes_on. absurd (goes_on (c.if-not-net_ended.ensures.0 refl)))

pub returns-clause-text : goal.returns-clause-text
returns-clause-text g c =
    let r = g.P.Protocol.rules in
    let lines = account_lines r g.P.Spoken.words.kind g.P.Protocol.bound c.args.net.now.graph (net_of r c.args.net.now) in
    record {
      branches = c.in_ok-tree.tree.items;
      all = c.in_ok-tree.ensures.links;
      finds = c.in_ok-tree.ensures.found (c.net_ended.ensures.0 c.if-not-net_ended.false);
      within = c.in_ok-put_account.ensures.within;
      printed = c.in_ok-put_account.ensures.account ∙ ap (λ l. l ++ lines) (c.in_ok-text.ensures ∙ ap tree_text c.deref.ensures.value);
    }
