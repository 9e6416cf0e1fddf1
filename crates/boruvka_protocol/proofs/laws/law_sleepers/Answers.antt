use Rattle.boruvka_protocol.proofs.every_run.Nodes.{sleepers_are_untouched, sleepers_are_silent}
use Rattle.boruvka_protocol.proofs.laws.law_sleepers.Goals as goal

pub returns-clause-untouched : goal.returns-clause-untouched
returns-clause-untouched c = sleepers_are_untouched

pub returns-clause-silent : goal.returns-clause-silent
returns-clause-silent c = sleepers_are_silent
