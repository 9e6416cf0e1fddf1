use Rattle.std.proofs.Common.{◌+◌, ◌*◌, ◌≤◌, arith}
use Rattle.ghs_following.specs.Chains.{longest_chain}
use Rattle.ghs_protocol.proofs.lemmas.Runs.{after_is_net}
use Rattle.ghs_protocol.specs.Ledger.{in_all}
use Rattle.ghs_protocol.specs.Run.{net_after}
use Rattle.peer_network.specs.Network.{network_of}
use Rattle.ghs_rounds.proofs.Sent.{by_moments}
use Rattle.ghs_rounds.proofs.Steps.{Promised}
use Rattle.ghs_rounds.proofs.Told.{rounds_are_chains, told}
use Rattle.ghs_rounds.proofs.laws.law_rounds_are_fewer.Goals as goal

pub returns : goal.returns
returns c =
    let law : Promised =
    record {
      one = c.law_one_waits.ensures;
      requeues = c.law_requeues.ensures;
      turns = c.law_turns.ensures;
      others = c.law_others.ensures;
      awake = c.law_awake.ensures;
    } in
    λ may g es r sent ok two b bound by ended.
    let num = (by_moments law c.law_rules.ensures c.law_patience_lasts.ensures may g ok es r sent by).0 in
    let run = (told law c.law_rules.ensures c.law_patience_lasts.ensures may g ok es r num).is_run in
    let whole = after_is_net g es run in
    let same = rounds_are_chains law c.law_rules.ensures c.law_patience_lasts.ensures may g ok es r num ended in
    let long : longest_chain (network_of g) es ≤ in_all (net_after g es).sent = c.law_chain_is_sent.ensures (network_of g) es
    (net_after g es) whole in
    let few : in_all (net_after g es).sent + 2 * g.nodes ≤ b =
    c.law_sharp_bound.ensures g (net_after g es) (record { graph = ok; events = es; run = whole }) b two bound in
    omega (arith, same, long, few)
