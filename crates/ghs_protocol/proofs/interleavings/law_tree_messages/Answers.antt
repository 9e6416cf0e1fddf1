use Rattle.ghs_protocol.proofs.charges.Bound.{tree_messages_are_few}
use Rattle.ghs_protocol.proofs.interleavings.law_tree_messages.Goals as goal

pub returns : goal.returns
returns c = tree_messages_are_few
