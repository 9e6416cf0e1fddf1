use Rattle.std.proofs.Common.{◌∙◌}
use Rattle.peer_network.specs.Network.{network_of}
use Rattle.peer_index.specs.contracts.index.Index.{the_view}
use Rattle.peer_index.proofs.Finding.{any_told}
use Rattle.peer_index.proofs.index.Index.has_any.Goals as goal

pub returns : goal.returns
returns c = λ p of.
    c.is_some.ensures
    ∙ any_told (network_of c.args.graph.now) p (the_view c.self.inside)
    (rw (← c.self.view_is) at of) c.args.v _ _ c.first_from_to.result c.requires.low c.requires.high
    (rw c.deref.ensures.value at c.span_of-base.ensures.from) (rw c.deref.ensures.value at c.span_of-base.ensures.to) c.first_from_to.ensures
