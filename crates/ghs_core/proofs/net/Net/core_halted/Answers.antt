use Rattle.ghs_core.proofs.Interleaved.{exact_where}
use Rattle.ghs_core.proofs.net.Net.core_halted.Goals as goal

pub returns-clause-least : goal.returns-clause-least
returns-clause-least c = rw (← c.self.view_is, c.least.ensures) c.self.invariant.halted.least

pub returns-clause-exact : goal.returns-clause-exact
returns-clause-exact c =
    let k = c.self.invariant in
    rw (← c.self.view_is, c.least.ensures) (exact_where _ _ k.graph k.run _ k.halted.least)
