use Rattle.ghs_protocol.proofs.progress.Anywhere.{no_message_is_stuck}
use Rattle.ghs_protocol.proofs.interleavings.law_no_message_is_stuck.Goals as goal

pub returns : goal.returns
returns c = no_message_is_stuck
