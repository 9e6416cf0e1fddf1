use Rattle.ghs_node.proofs.Whole.{row_is_reaction}
use Rattle.ghs_node.proofs.laws.law_row_is_reaction.Goals as goal

pub returns : goal.returns
returns c = row_is_reaction
