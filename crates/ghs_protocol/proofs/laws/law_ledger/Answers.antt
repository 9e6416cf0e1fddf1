use Rattle.ghs_protocol.proofs.every_run.Firsts.{ledger_balances}
use Rattle.ghs_protocol.proofs.laws.law_ledger.Goals as goal

pub returns : goal.returns
returns c = ledger_balances
