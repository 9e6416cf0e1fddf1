use Rattle.ghs_node.proofs.lemmas.{reaction_port}
use Rattle.ghs_steps.proofs.change.changes.Goals as goal

pub mark-requires : goal.mark-requires
mark-requires c = reaction_port _ _ _ _ c.head-old.ensures.node c.requires c.in-Some.is
