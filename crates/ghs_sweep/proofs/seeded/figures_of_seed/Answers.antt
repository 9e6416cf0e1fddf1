use Rattle.std.proofs.Common.{◌∙◌, subst}
use Rattle.std.specs.Prelude.{IfOk}
use Rattle.ghs_graph.specs.Graph.{Shape}
use Rattle.ghs_sweep.specs.Sweep.{AreFiguresOf}
use Rattle.ghs_sweep.proofs.seeded.figures_of_seed.Goals as goal

pub returns-in-Ok : goal.returns-in-Ok
returns-in-Ok c =
    subst (λ (g : Shape). IfOk c.figures_in.result (λ f. AreFiguresOf g c.args.setup c.args.seed f)) (c.in-Ok.ensures.graph ∙ c.in_ok-copy.ensures)
    c.figures_in.ensures
