use Rattle.ghs_protocol.proofs.progress.Requeues.{waiting_takes_turn}
use Rattle.ghs_protocol.proofs.interleavings.law_turns.Goals as goal

pub returns : goal.returns
returns c = waiting_takes_turn
