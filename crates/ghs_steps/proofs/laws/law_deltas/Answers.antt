use Rattle.ghs_steps.proofs.Suffice.{deltas_suffice}
use Rattle.ghs_steps.proofs.laws.law_deltas.Goals as goal

pub returns : goal.returns
returns c = deltas_suffice
