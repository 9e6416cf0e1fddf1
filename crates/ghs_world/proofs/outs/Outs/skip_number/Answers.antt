use Rattle.ghs_world.proofs.Going.{passed}
use Rattle.ghs_world.proofs.outs.Outs.skip_number.Goals as goal

pub invariant_of-self : goal.invariant_of-self
invariant_of-self c = passed _ _ _ _ c.self.invariant
