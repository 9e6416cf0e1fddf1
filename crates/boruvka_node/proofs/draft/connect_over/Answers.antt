use Rattle.boruvka_node.proofs.Drafts.{connected}
use Rattle.boruvka_node.proofs.draft.connect_over.Goals as goal

pub returns-clause-asked : goal.returns-clause-asked
returns-clause-asked c = connected c.args.node.now c.args.draft c.args.port c.send.result c.send.ensures.change c.send.ensures.sends
