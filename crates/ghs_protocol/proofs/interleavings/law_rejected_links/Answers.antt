use Rattle.ghs_protocol.proofs.every_run.Interleavings.{rejected_links_inside}
use Rattle.ghs_protocol.proofs.interleavings.law_rejected_links.Goals as goal

pub returns : goal.returns
returns c = rejected_links_inside
