use Rattle.ghs_core.proofs.Halting.{each_has}
use Rattle.ghs_core.proofs.Interleaved.{exact_end}
use Rattle.ghs_core.proofs.net.Net.ended.Goals as goal

pub returns-clause-ended : goal.returns-clause-ended
returns-clause-ended c = rw (← c.self.view_is) (each_has _ _ _ c.self.invariant.halted _ c.has_each.ensures)

pub returns-clause-forest : goal.returns-clause-forest
returns-clause-forest c =
    let k = c.self.invariant in
    rw (← c.self.view_is) (λ t. exact_end _ _ k.graph k.run ((each_has _ _ _ k.halted _ c.has_each.ensures).0 t))
