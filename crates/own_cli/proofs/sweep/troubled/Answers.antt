use Rattle.std.proofs.Common.{List, rules, subst, sym}
use Rattle.ghs_answers.specs.Sheets.{setup_of}
use Rattle.peer_sweep.specs.Sweep.{AreRuns, NoRun}
use Rattle.peer_sweep.specs.declared.figures.Figures.{Figures}
use Rattle.own_cli.specs.Sweep.{IsSoundRun}
use Rattle.own_cli.proofs.sweep.troubled.Goals as goal

pub loop-done-init : goal.loop-done-init
loop-done-init c = record {
  runs = subst (λ (l : List Figures). AreRuns (IsSoundRun c.args.rules.now c.args.check) c.args.graph.now (setup_of c.args.options.now)
      c.args.options.now.seeds.first l)
      (sym c.requires.none) NoRun;
  count = search rules;
}
