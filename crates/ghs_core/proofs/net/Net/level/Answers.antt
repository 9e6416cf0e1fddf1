use Rattle.std.proofs.Common.{ap, ◌∙◌}
use Rattle.ghs_core.proofs.Reading.{node_found}
use Rattle.ghs_core.proofs.Interleaved.{large_fragment}
use Rattle.ghs_core.proofs.net.Net.level.Goals as goal

pub returns-clause-fragment : goal.returns-clause-fragment
returns-clause-fragment c =
    let k = c.self.invariant in
    let high = rw (← c.self.view_is) at c.requires.high in
    let node = node_found k c.args.v c.index.result.now c.requires.low high c.index.ensures in
    rw (← c.self.view_is) (large_fragment _ _ k.graph k.run c.args.v c.get.result c.requires.low high
    (c.get.ensures.value ∙ ap (λ h. h.level) (c.head.ensures.head ∙ ap (λ n. n.head) node)))
