use Rattle.ghs_protocol.proofs.progress.Fairness.{all_taken_is_lap}
use Rattle.ghs_protocol.proofs.interleavings.law_all_taken_is_lap.Goals as goal

pub returns : goal.returns
returns c = all_taken_is_lap
