use Rattle.std.proofs.Common.{List, ℕ, rules, subst, sym}
use Rattle.peer_sweep.specs.declared.figures.Figures.{Figures}
use Rattle.peer_sweep.specs.Sweep.{AreRuns}
use Rattle.peer_sweep.proofs.Appending.{runs_behind}
use Rattle.peer_sweep.proofs.runs.run_seeds.Goals as goal

pub returns-clause-runs : goal.returns-clause-runs
returns-clause-runs g c =
    let more = c.in_ok-more.more.items in
    subst (λ (l : List Figures). AreRuns g.P.Swept.are_figures_of c.args.graph.now c.args.setup c.args.first l) (sym c.in_ok-append.ensures.items)
    (runs_behind g.P.Swept.are_figures_of c.args.graph.now c.args.setup c.args.first c.args.runs.now.items more c.requires.before
    (subst (λ (n : ℕ). AreRuns g.P.Swept.are_figures_of c.args.graph.now c.args.setup n more) (search rules) c.in_ok-more.ensures.runs))
