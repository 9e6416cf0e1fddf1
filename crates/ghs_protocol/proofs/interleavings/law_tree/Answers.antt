use Rattle.ghs_protocol.proofs.every_run.Sound.{end_is_tree}
use Rattle.ghs_protocol.proofs.interleavings.law_tree.Goals as goal

pub returns : goal.returns
returns c = end_is_tree
