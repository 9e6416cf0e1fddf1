use Rattle.ghs_protocol.proofs.every_run.Firsts.{messages_have_levels}
use Rattle.ghs_protocol.proofs.laws.law_message_levels.Goals as goal

pub returns : goal.returns
returns c = messages_have_levels
