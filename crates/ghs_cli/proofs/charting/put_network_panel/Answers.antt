use Rattle.std.proofs.Common.{List, subst, sym}
use Rattle.std.specs.List.{All}
use Rattle.peer_sweep.specs.declared.figures.Figures.{Figures}
use Rattle.peer_sweep.specs.Figures.{LeavesRoom}
use Rattle.ghs_cli.proofs.Roomy.{runs_are_roomy}
use Rattle.ghs_cli.proofs.Charted.{panel_is_swept}
use Rattle.ghs_cli.proofs.charting.put_network_panel.Goals as goal

pub put_runs_panel-requires-clause-small : goal.put_runs_panel-requires-clause-small
put_runs_panel-requires-clause-small g c =
    subst (λ (l : List Figures). All LeavesRoom l) (sym c.deref.ensures.value) (runs_are_roomy c.args.protocol _ _ _ _ c.in_ok-runs.ensures.runs)

pub returns : goal.returns
returns g c =
    panel_is_swept c.args.protocol c.args.options.now c.args.place c.args.name.now c.args.graph.now c.in_ok-runs.runs.items
    c.deref.result.now c.args.text.now.items
    c.put_runs_panel.new.text.items c.deref.ensures.value c.in_ok-runs.ensures.runs c.in_ok-runs.ensures.all c.in_ok-put_runs_panel.ensures
