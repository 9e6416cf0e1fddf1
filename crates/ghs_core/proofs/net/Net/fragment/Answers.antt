use Rattle.std.proofs.Common.{ℕ, Vec, Global}
use Rattle.ghs_core.proofs.Fragments.{fragment_told}
use Rattle.ghs_core.proofs.net.Net.fragment.Goals as goal

pub returns : goal.returns
returns c =
    rw (← c.self.view_is)
    (fragment_told c.self.invariant (λ (v : Vec ℕ Global). v.items) c.numbers_alike.result c.in_ok-roots.roots.items c.nodes.result c.args.v
    c.requires.low (rw (← c.self.view_is) at c.requires.high) c.nodes.ensures.nodes (rw (← c.self.view_is) at c.in_ok-roots.ensures)
    (rw c.deref.ensures.value at c.numbers_alike.ensures))
