use Rattle.std.proofs.Common.{List, rules, subst, sym}
use Rattle.peer_sweep.specs.declared.figures.Figures.{Figures}
use Rattle.peer_sweep.specs.Sweep.{NoRun}
use Rattle.ghs_answers.specs.Sheets.{setup_of}
use Rattle.ghs_cli.specs.Swept.{AreRunsBy}
use Rattle.ghs_cli.proofs.sweeping.runs_of.Goals as goal

pub loop-left-init : goal.loop-left-init
loop-left-init g c = record {
  runs = subst (λ (l : List Figures). AreRunsBy c.args.protocol c.args.graph.now (setup_of c.args.options.now)
      c.args.options.now.seeds.first l)
      (sym c.new-runs.ensures.items) NoRun;
  all = search rules;
}
