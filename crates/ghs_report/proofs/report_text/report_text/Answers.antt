use Rattle.std.proofs.Common.{◌≡◌, ◌≤◌, ◌++◌, ◌∙◌, List, ap, arith, length, refl, rules, slice_index}
use Rattle.ghs_core.specs.NetState.{net_of}
use Rattle.ghs_graph.specs.Bound.{IsBound}
use Rattle.ghs_graph.specs.declared.key.Key.{Key}
use Rattle.ghs_protocol.specs.Ledger.{in_all}
use Rattle.ghs_protocol.specs.Net.{Net}
use Rattle.ghs_protocol.specs.Marks.{HasEnded}
use Rattle.peer_network.proofs.lemmas.Sums.{sum_same}
use Rattle.ghs_report.proofs.Counts.{same_bound, same_line}
use Rattle.ghs_report.specs.ReportText.{messages_line, sends_line}
use Rattle.ghs_report.specs.TreeText.{tree_text}
use Rattle.ghs_report.proofs.report_text.report_text.Goals as goal

-- what was sent is within the bound, which is a number of 64 bits
pub in_total-requires : goal.in_total-requires
in_total-requires c =
    let is_bound : IsBound c.args.net.now.graph.nodes (length c.args.net.now.graph.keys) c.bound-most.result =
    same_bound _ _ _ _ _ (search rules) (search rules) c.bound-most.ensures in
    let within : in_all (λ k. slice_index c.ledger.result.sent k) ≤ c.bound-most.result = c.ledger.ensures.bound.bound c.bound-most.result is_bound in
    omega (arith, within)

-- the counts of the ledger are the net's
pub returns-clause-text : goal.returns-clause-text
returns-clause-text c =
    let w : Net = net_of c.args.net.now in
    let tree : List Key = c.in_ok-branches.branches.items in
    let ended : HasEnded c.args.net.now.graph w = c.if-not-ended.ensures.ended.0 refl in
    let lines : messages_line (λ k. slice_index c.ledger.result.sent k) ≡ messages_line w.sent = same_line _ _ c.ledger.ensures.counts.sent in
    let sum : in_all (λ k. slice_index c.ledger.result.sent k) ≡ in_all w.sent = sum_same 7 _ _ c.ledger.ensures.counts.sent in
    let total : c.in_total.result ≡ in_all w.sent = c.in_total.ensures ∙ sum in
    let is_bound : IsBound c.args.net.now.graph.nodes (length c.args.net.now.graph.keys) c.bound-most.result =
    same_bound _ _ _ _ _ (search rules) (search rules) c.bound-most.ensures in
    let most : in_all (λ k. slice_index c.ledger.result.sent k) ≤ c.bound-most.result = c.ledger.ensures.bound.bound c.bound-most.result is_bound in
    let begun =
    c.in_ok-put_messages.ensures ∙ (ap (λ t. t ++ messages_line (λ k. slice_index c.ledger.result.sent k))
    (c.in_ok-text.ensures ∙ ap tree_text c.deref.ensures.value) ∙ ap (λ t. tree_text tree ++ t) lines) in
    record {
      branches = tree;
      all = c.in_ok-branches.ensures.links;
      forest = c.in_ok-branches.ensures.forest ended;
      bound = c.bound-most.result;
      is_bound = is_bound;
      within = omega (arith, most, sum);
      printed = c.in_ok-put_sends.ensures
          ∙ (ap (λ t. t ++ sends_line c.in_total.result c.bound-most.result) begun
          ∙ ap (λ n. tree_text tree ++ messages_line w.sent ++ sends_line n c.bound-most.result) total);
    }

pub returns-clause-not_ended : goal.returns-clause-not_ended
returns-clause-not_ended c = (λ e. search rules, λ goes_on. absurd (goes_on (c.if-not-ended.ensures.ended.0 refl)))
