use Rattle.std.proofs.Common.{◌-◌}
use Rattle.peer_sweep.proofs.Appending.{runs_of_both}
use Rattle.peer_sweep.proofs.runs.+fn-runs_by-join+arg3+runs_by.Goals as goal

pub returns-clause-runs : goal.returns-clause-runs
returns-clause-runs g t c =
    runs_of_both g.P.Swept.are_figures_of c.args.graph.now c.args.setup c.args.first (c.args.count - c.share_of-share.result) c.share_of-share.result
    c.join-mine.result.0 c.join-mine.result.1 c.in_ok-runs.runs c.in_ok-others.field-0 c.append.new.self.items
    c.join-mine.ensures.first c.join-mine.ensures.second c.in_ok-runs.was c.in_ok-others.was c.in_ok-append.ensures.items
