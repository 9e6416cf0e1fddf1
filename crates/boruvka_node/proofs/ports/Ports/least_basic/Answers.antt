use Rattle.std.proofs.Common.{sym, arith}
use Rattle.boruvka_node.proofs.LeastBasic.{least_some, least_none}
use Rattle.boruvka_node.proofs.ports.Ports.least_basic.Goals as goal

pub returns-then-self-len : goal.returns-then-self-len
returns-then-self-len c =
    let len = rw (← c.self.view_is) at c.len.ensures.len in
    rw (← c.self.view_is) (sym (least_some _ c.self.inside.least c.self.invariant.first (omega arith)))

pub returns-else-self-len : goal.returns-else-self-len
returns-else-self-len c =
    let len = rw (← c.self.view_is) at c.len.ensures.len in
    rw (← c.self.view_is) (sym (least_none _ c.self.inside.least c.self.invariant.first (omega arith)))
