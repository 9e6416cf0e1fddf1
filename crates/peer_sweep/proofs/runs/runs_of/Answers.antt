use Rattle.std.proofs.Common.{List, rules, subst, sym}
use Rattle.peer_sweep.specs.declared.figures.Figures.{Figures}
use Rattle.peer_sweep.specs.Sweep.{AreRuns, NoRun}
use Rattle.peer_sweep.proofs.Appending.{one_run_more}
use Rattle.peer_sweep.proofs.runs.runs_of.Goals as goal

pub loop-done-init : goal.loop-done-init
loop-done-init g c = record {
  runs = subst (λ (l : List Figures). AreRuns g.P.Swept.are_figures_of c.args.graph.now c.args.setup c.args.first l)
      (sym c.new-runs.ensures.items) NoRun;
  count = search rules;
}

pub loop-done-preserved : goal.loop-done-preserved
loop-done-preserved g c = record {
  runs = one_run_more g.P.Swept.are_figures_of c.args.graph.now c.args.setup c.args.first c.loop-done.done c.loop-done.runs.items
      c.push.new.self.items
      c.in_ok-figures_of_seed.field-0
      c.loop-done.invariant.runs c.loop-done.invariant.count c.in_ok-figures_of_seed.ensures c.in_ok-push.ensures.items;
  count = search rules;
}
