use Rattle.std.proofs.Common.{List, subst, sym}
use Rattle.ghs_sweep.specs.Sweep.{AreFiguresOf}
use Rattle.peer_sweep.specs.declared.figures.Figures.{Figures}
use Rattle.peer_sweep.specs.Sweep.{AreRuns, NoRun}
use Rattle.peer_sweep.proofs.lemmas.Room.{runs_leave_room}
use Rattle.ghs_run_refusals.proofs.sweeps.first_runs.Goals as goal

pub run_seeds-requires-clause-before : goal.run_seeds-requires-clause-before
run_seeds-requires-clause-before g c κs within =
    subst (λ (l : List Figures). AreRuns AreFiguresOf c.args.graph.now c.args.setup 1 l) (sym c.new-runs.ensures.items) NoRun

pub returns-clause-small : goal.returns-clause-small
returns-clause-small g c = runs_leave_room AreFiguresOf (λ gr s seed f are. are.figures.room) _ _ _ _ c.in_ok-run_seeds.ensures.runs
