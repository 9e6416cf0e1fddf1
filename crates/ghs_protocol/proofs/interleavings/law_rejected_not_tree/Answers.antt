use Rattle.ghs_protocol.proofs.every_run.Sound.{rejected_links_aside}
use Rattle.ghs_protocol.proofs.interleavings.law_rejected_not_tree.Goals as goal

pub returns : goal.returns
returns c = rejected_links_aside
