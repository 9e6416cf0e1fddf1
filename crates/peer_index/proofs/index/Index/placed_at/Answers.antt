use Rattle.std.proofs.Common.{refl, arith}
use Rattle.std.specs.Arc.{arc_slice_items}
use Rattle.peer_network.specs.Network.{network_of}
use Rattle.peer_index.specs.contracts.index.Index.{the_view}
use Rattle.peer_index.proofs.Finding.{placed_told}
use Rattle.peer_index.proofs.FarEnds.{ends_of_all}
use Rattle.peer_index.proofs.index.Index.placed_at.Goals as goal

pub ends_at-here-requires-clause-within : goal.ends_at-here-requires-clause-within
ends_at-here-requires-clause-within c =
    let is = rw (← c.self.view_is) at c.requires.index in
    let many = ends_of_all (network_of c.args.graph.now) (the_view c.self.inside) (arc_slice_items c.self.inside.ends) is refl in
    let within = c.requires.within in
    rw c.deref-2.ensures.value (omega arith)

pub returns-clause-placed : goal.returns-clause-placed
returns-clause-placed c =
    let bases = rw (← c.self.view_is) at c.requires.index.bases in
    placed_told (network_of c.args.graph.now) (arc_slice_items c.self.inside.bases) c.ends_at-here.result.owner c.args.at
    c.ends_at-here.result.base _ bases (rw c.deref.ensures.value at c.ends_at-here.ensures.owner)
    (rw c.deref.ensures.value at c.ends_at-here.ensures.base) c.event_behind-event.ensures
