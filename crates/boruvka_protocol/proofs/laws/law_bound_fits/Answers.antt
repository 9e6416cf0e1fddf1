use Rattle.boruvka_protocol.proofs.bound.Fits.{bound_fits}
use Rattle.boruvka_protocol.proofs.laws.law_bound_fits.Goals as goal

pub returns : goal.returns
returns c = bound_fits
