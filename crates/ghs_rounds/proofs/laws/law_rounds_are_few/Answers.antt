use Rattle.std.proofs.Common.{◌≤◌, arith}
use Rattle.ghs_following.specs.Chains.{longest_chain}
use Rattle.peer_network.specs.Network.{network_of}
use Rattle.ghs_rounds.proofs.AnyOrder.{by_numbers}
use Rattle.ghs_rounds.proofs.Steps.{Promised}
use Rattle.ghs_rounds.proofs.Told.{rounds_are_near, told}
use Rattle.ghs_rounds.proofs.laws.law_rounds_are_few.Goals as goal

pub returns : goal.returns
returns c =
    let law : Promised =
    record {
      one = c.law_one_waits.ensures;
      requeues = c.law_requeues.ensures;
      turns = c.law_turns.ensures;
      others = c.law_others.ensures;
      awake = c.law_awake.ensures;
    } in
    λ may g turns words es r after ok all b bound by.
    let num = by_numbers may g turns words es r after by in
    let near = rounds_are_near law c.law_rules.ensures c.law_patience_lasts.ensures may g ok es r num all in
    let run = (told law c.law_rules.ensures c.law_patience_lasts.ensures may g ok es r num).is_run in
    let within : longest_chain (network_of g) es ≤ b = c.law_chain_within_bound.ensures g b es run.0 ok bound run.1 in
    let some = ok.some in
    omega (arith, near, within, some)
