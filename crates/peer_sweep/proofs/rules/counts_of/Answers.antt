use Rattle.std.proofs.Common.{◌≡◌, ◌≤◌, ◌<◌, ◌^◌, ◌∙◌, ap, arith, refl, rules, slice_index}
use Rattle.peer_network.specs.Sums.{sum_below}
use Rattle.peer_network.proofs.lemmas.Sums.{sum_same}
use Rattle.peer_machine.specs.Ledger.{in_all}
use Rattle.peer_lengths.specs.Sends.{bits_sent, longest_sent}
use Rattle.peer_sweep.proofs.Ruled.{few_bits}
use Rattle.peer_sweep.proofs.rules.counts_of.Goals as goal

pub returns : goal.returns
returns g c =
    let r = g.P.Protocol.rules in
    let gr = c.args.net.now.graph in
    let es = c.args.net.now.trace in
    let ledger = c.ledger-ledger.ensures in
    let most : c.bound_of-most.result ≡ g.P.Protocol.bound gr = c.bound_of-most.ensures ∙ ap g.P.Protocol.bound c.graph-graph.ensures in
    let total : c.in_total-total.result ≡ in_all r (λ k. slice_index c.ledger-ledger.result.sent.now k) =
    c.in_total-total.ensures ∙ ap (λ n. sum_below n (λ k. slice_index c.ledger-ledger.result.sent.now k)) ledger.counts.sent_kinds in
    let within : in_all r (λ k. slice_index c.ledger-ledger.result.sent.now k) ≤ g.P.Protocol.bound gr = ledger.bound in
    let longer = ledger.counts.sent_kinds in
    let are = c.requires in
    let bits = are.bits in
    let longest = are.longest in
    let run = c.trace.ensures.run in
    let some = g.met.P.Protocol.is_bounded gr run.0 (record { graph = c.trace.ensures.graph; events = es; run = run.1 }) in
    let fits = g.met.P.Protocol.bound_fits gr c.trace.ensures.graph in
    let short : c.args.lengths.longest < 2 ^ 32 = search rules in
    let few = few_bits (bits_sent r gr es) (in_all r run.0.sent) (longest_sent r gr es) (g.P.Protocol.bound gr)
    (c.law_bits.ensures r g.met.P.Protocol.has_kinds gr es run.0 run.1) some fits (omega (arith, short, longest)) in
    record {
      nodes = search rules;
      links = search rules;
      events = search rules;
      messages = record {
        sent = total ∙ sum_same r.kinds _ _ ledger.counts.sent;
        kinds = λ k small lt. c.first_eight.ensures.each k small (omega (arith, lt, longer)) ∙ ledger.counts.sent k lt;
        requeued = ledger.counts.deferred;
        queued = ledger.counts.queued;
        bound = most;
        within = omega (arith, most, total, within);
      };
      level = refl;
      fragments = refl;
      weight = refl;
      ended = refl;
      lengths = are;
      room = record { weight = tt; bits = omega (arith, bits, few) };
    }
