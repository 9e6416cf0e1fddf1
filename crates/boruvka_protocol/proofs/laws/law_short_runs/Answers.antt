use Rattle.boruvka_protocol.proofs.every_run.Keeps.{every_holds}
use Rattle.boruvka_protocol.proofs.bound.Runs.{runs_are_short}
use Rattle.boruvka_protocol.proofs.laws.law_short_runs.Goals as goal

pub returns : goal.returns
returns c = runs_are_short every_holds
