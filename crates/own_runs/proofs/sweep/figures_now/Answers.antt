use Rattle.std.proofs.Common.{◌∙◌}
use Rattle.own_runs.proofs.Sweeping.{figures_here}
use Rattle.own_runs.proofs.sweep.figures_now.Goals as goal

pub returns-clause-figures : goal.returns-clause-figures
returns-clause-figures g c =
    figures_here g.P.Protocol.rules g.P.Protocol.bound c.args.world.now c.net-net.result.now c.counts_of-figures.result c.ready_count.result
    c.deref-3.result.now c.has_ended.result c.net-net.ensures.net c.counts_of-figures.ensures c.ready_count.ensures
    (c.deref-3.ensures.value ∙ c.in_ok-stops.ensures.stops) c.has_ended.ensures
