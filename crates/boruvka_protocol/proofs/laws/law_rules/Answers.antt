use Rattle.boruvka_protocol.proofs.every_run.Keeps.{every_holds}
use Rattle.boruvka_protocol.proofs.follows.Laws.{events_have_rules}
use Rattle.boruvka_protocol.proofs.laws.law_rules.Goals as goal

pub returns : goal.returns
returns c = events_have_rules every_holds
