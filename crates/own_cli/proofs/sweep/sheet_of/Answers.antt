use Rattle.own_cli.proofs.Sweeping.{sound_are_roomy}
use Rattle.own_cli.proofs.sweep.sheet_of.Goals as goal

pub put_sheet-requires-clause-small : goal.put_sheet-requires-clause-small
put_sheet-requires-clause-small c = sound_are_roomy c.args.rules.now c.args.check _ _ _ _ c.requires.runs
