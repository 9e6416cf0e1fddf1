use Rattle.peer_sweep.proofs.Ruled.{figures_of_run}
use Rattle.peer_sweep.proofs.rules.seeded.Goals as goal

pub returns : goal.returns
returns g c =
    let ran = c.in_ok-world.ensures.run in
    figures_of_run g.P.Protocol.rules g.P.Protocol.bound g.P.FindsTree.is_branch g.P.Ends.has_ended c.args.graph.now c.in_ok-copy.copy c.args.setup
    c.args.seed c.net.result.now c.in_ok-world.world.net _ c.figures_of.result c.net.ensures.net ran.0 c.in_ok-copy.ensures ran.1
    c.figures_of.ensures
