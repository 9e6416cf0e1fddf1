use Rattle.std.proofs.Common.{◌≡◌, ◌≤◌, ◌∙◌, arith, length, rules, slice_index}
use Rattle.ghs_core.specs.NetState.{net_of}
use Rattle.ghs_graph.specs.Bound.{IsBound}
use Rattle.ghs_protocol.specs.Ledger.{in_all}
use Rattle.ghs_protocol.specs.Net.{Net}
use Rattle.peer_network.proofs.lemmas.Sums.{sum_same}
use Rattle.ghs_sweep.proofs.Seven.{seven_of}
use Rattle.ghs_sweep.proofs.figures.figures_with.Goals as goal

-- what was sent is within the bound, which is a number of 64 bits
pub in_total-requires : goal.in_total-requires
in_total-requires c =
    let is_bound : IsBound c.args.net.now.graph.nodes (length c.args.net.now.graph.keys) c.bound-most.result = search rules in
    let within : in_all (λ k. slice_index c.ledger-ledger.result.sent k) ≤ c.bound-most.result =
    c.ledger-ledger.ensures.bound.bound c.bound-most.result is_bound in
    omega (arith, within)

pub returns : goal.returns
returns c =
    let w : Net = net_of c.args.net.now in
    let ledger = c.ledger-ledger.ensures in
    let sum : in_all (λ k. slice_index c.ledger-ledger.result.sent k) ≡ in_all w.sent = sum_same 7 _ _ ledger.counts.sent in
    let is_bound : IsBound c.args.net.now.graph.nodes (length c.args.net.now.graph.keys) c.bound-most.result = search rules in
    let most = ledger.bound.bound c.bound-most.result is_bound in
    let total = c.in_total.ensures in
    record {
      nodes = search rules;
      links = search rules;
      events = c.events.ensures;
      messages = record {
        sent = total ∙ sum;
        kinds = seven_of c.ledger-ledger.result.sent _ ledger.counts.sent;
        requeued = ledger.counts.requeued;
        queued = ledger.counts.queued;
        bound = is_bound;
        within = omega (arith, most, total);
      };
      marks = record {
        rows = c.in_ok-census.census.items;
        census = c.in_ok-census.ensures.census;
        fragments = search rules;
        level = search rules;
        branches = c.in_ok-branches.branches.items;
        all = c.in_ok-branches.ensures.links;
        weight = search rules;
      };
      ended = c.ended.ensures.ended;
      lengths = record { chain = search rules; bits = search rules; longest = search rules };
      room = record { weight = c.total_weight.ensures.small; bits = search rules };
    }
