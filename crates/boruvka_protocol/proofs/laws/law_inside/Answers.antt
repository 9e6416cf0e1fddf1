use Rattle.boruvka_protocol.proofs.every_run.Keeps.{every_holds}
use Rattle.boruvka_protocol.proofs.follows.Laws.{inside_links_aside}
use Rattle.boruvka_protocol.proofs.laws.law_inside.Goals as goal

pub returns : goal.returns
returns c = inside_links_aside every_holds
