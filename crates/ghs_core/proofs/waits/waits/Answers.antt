use Rattle.std.proofs.Common.{rules}
use Rattle.ghs_core.proofs.lemmas.Waiting.{told}
use Rattle.ghs_core.proofs.waits.waits.Goals as goal

pub returns-then-get-clause-law : goal.returns-then-get-clause-law
returns-then-get-clause-law c = told c.args.node.now c.args.port c.args.message.now _ (search rules)

pub returns-then-is_awake-2-clause-law : goal.returns-then-is_awake-2-clause-law
returns-then-is_awake-2-clause-law c = told c.args.node.now c.args.port c.args.message.now _ (search rules)

pub returns-then-is_searching-clause-law : goal.returns-then-is_searching-clause-law
returns-then-is_searching-clause-law c = told c.args.node.now c.args.port c.args.message.now _ (search rules)
