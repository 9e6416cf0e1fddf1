use Rattle.ghs_protocol.proofs.progress.Fairness.{prompt_runs_are_short}
use Rattle.ghs_protocol.proofs.interleavings.law_prompt.Goals as goal

pub returns : goal.returns
returns c = prompt_runs_are_short
