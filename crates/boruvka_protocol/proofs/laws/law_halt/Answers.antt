use Rattle.boruvka_protocol.proofs.every_run.Keeps.{every_holds}
use Rattle.boruvka_protocol.proofs.follows.Laws.{halt_is_end}
use Rattle.boruvka_protocol.proofs.laws.law_halt.Goals as goal

pub returns : goal.returns
returns c = halt_is_end every_holds
