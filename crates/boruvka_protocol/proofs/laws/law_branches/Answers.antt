use Rattle.boruvka_protocol.proofs.every_run.Keeps.{every_holds}
use Rattle.boruvka_protocol.proofs.follows.Laws.{branch_links_in_tree}
use Rattle.boruvka_protocol.proofs.laws.law_branches.Goals as goal

pub returns : goal.returns
returns c = branch_links_in_tree every_holds
