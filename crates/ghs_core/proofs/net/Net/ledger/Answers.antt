use Rattle.ghs_core.proofs.Interleaved.{within_bound}
use Rattle.ghs_core.proofs.Reading.{told}
use Rattle.ghs_core.proofs.net.Net.ledger.Goals as goal

pub returns-clause-counts : goal.returns-clause-counts
returns-clause-counts c = rw (← c.self.view_is) (told c.self.invariant c.total.result c.total.ensures)

pub returns-clause-bound : goal.returns-clause-bound
returns-clause-bound c =
    let k = c.self.invariant in
    rw (← c.self.view_is) (within_bound _ _ k.graph k.run _ (told k c.total.result c.total.ensures))
