use Rattle.ghs_protocol.proofs.every_run.Sound.{branch_links_in_tree}
use Rattle.ghs_protocol.proofs.interleavings.law_branch_links.Goals as goal

pub returns : goal.returns
returns c = branch_links_in_tree
