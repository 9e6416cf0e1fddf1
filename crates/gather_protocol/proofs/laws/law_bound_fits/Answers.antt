use Rattle.gather_protocol.proofs.Bound.{bound_fits}
use Rattle.gather_protocol.proofs.laws.law_bound_fits.Goals as goal

pub returns : goal.returns
returns c = bound_fits
