use Rattle.ghs_make.proofs.Linking.{are_simple}
use Rattle.ghs_make.proofs.laws.law_simple.Goals as goal

pub returns : goal.returns
returns c = are_simple
