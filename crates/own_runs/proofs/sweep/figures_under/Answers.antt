use Rattle.own_runs.proofs.Sweeping.{figures_of_run}
use Rattle.own_runs.proofs.sweep.figures_under.Goals as goal

pub returns : goal.returns
returns g c =
    let ran = c.in_ok-world.ensures in
    figures_of_run g.P.Protocol.rules g.P.Protocol.bound c.args.rules.now c.args.check c.args.seed c.args.turns c.args.graph.now c.in_ok-copy.copy
    c.args.wake c.in_ok-world.world c.in_ok-copy.ensures ran.graph ran.wake ran.run c.figures_now.result c.figures_now.ensures.figures
    c.figures_now.ensures.lacking c.figures_now.ensures.faults c.figures_now.ensures.wrong
