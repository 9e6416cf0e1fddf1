use Rattle.std.proofs.Common.{List, subst, sym}
use Rattle.std.specs.List.{All}
use Rattle.peer_sweep.specs.declared.figures.Figures.{Figures}
use Rattle.peer_sweep.specs.Figures.{LeavesRoom}
use Rattle.ghs_cli.proofs.Roomy.{runs_are_roomy}
use Rattle.ghs_cli.proofs.Sheets.{sheet_is_swept}
use Rattle.ghs_cli.proofs.sweeping.put_swept.Goals as goal

pub put_sheet-requires-clause-small : goal.put_sheet-requires-clause-small
put_sheet-requires-clause-small g c =
    subst (λ (l : List Figures). All LeavesRoom l) (sym c.deref.ensures.value) (runs_are_roomy c.args.protocol _ _ _ _ c.in_ok-runs.ensures.runs)

pub returns : goal.returns
returns g c =
    sheet_is_swept c.args.protocol c.args.options.now c.args.front.now c.args.graph.now c.in_ok-table.table c.setup_of-setup.result
    c.in_ok-runs.runs.items c.deref.result.now c.args.text.now.items
    c.put_sheet.new.text.items c.in_ok-table.ensures c.setup_of-setup.ensures c.deref.ensures.value c.in_ok-runs.ensures.runs
    c.in_ok-runs.ensures.all c.in_ok-put_sheet.ensures
