use Rattle.std.proofs.Common.{arith}
use Rattle.ghs_picking.proofs.Rounds.{most_few}
use Rattle.ghs_picking.proofs.round_bound.most_ports.Goals as goal

pub returns-clause-few : goal.returns-clause-few
returns-clause-few c =
    let few = most_few c.args.graph.now c.nodes-before-end.ensures.graph c.loop-before.before in
    let is = c.loop-before.invariant in
    omega (arith, few, is)
