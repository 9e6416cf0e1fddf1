use Rattle.boruvka_protocol.proofs.every_run.Keeps.{every_holds}
use Rattle.boruvka_protocol.proofs.follows.Laws.{silence_is_end}
use Rattle.boruvka_protocol.proofs.laws.law_silence.Goals as goal

pub returns : goal.returns
returns c = silence_is_end every_holds
