use Rattle.std.proofs.Common.{◌∙◌, ap, sym}
use Rattle.peer_network.specs.declared.wake_set.WakeSet.{WakeSet}
use Rattle.peer_network.specs.Wakes.{may_wake}
use Rattle.peer_network.proofs.Firsts.{first_is}
use Rattle.peer_network.proofs.wake_set.WakeSet.has.Goals as goal

pub returns-in-First : goal.returns-in-First
returns-in-First c =
    first_is c.args.graph.now c.args.v c.root.result c.root.ensures.root ∙
    ap (λ (w : WakeSet). may_wake c.args.graph.now w c.args.v) (sym c.in-First.is)
