use Rattle.boruvka_protocol.proofs.every_run.Keeps.{every_holds}
use Rattle.boruvka_protocol.proofs.bound.Runs.{sends_within_bound}
use Rattle.boruvka_protocol.proofs.laws.law_sends.Goals as goal

pub returns : goal.returns
returns c = sends_within_bound every_holds
