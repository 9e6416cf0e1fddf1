use Rattle.std.proofs.Common.{◌≡◌, ◌+◌, refl, arith}
use Rattle.std.specs.Arc.{arc_slice_items}
use Rattle.peer_network.specs.declared.event.Event.TheVariants.{Take}
use Rattle.peer_network.specs.Events.{event_node}
use Rattle.peer_network.specs.Network.{network_of}
use Rattle.peer_index.specs.Places.{far_take, place}
use Rattle.peer_index.specs.contracts.index.Index.{the_view}
use Rattle.peer_index.proofs.lemmas.Places.{place_within}
use Rattle.peer_index.proofs.FarEnds.{ends_of_all, far_has, far_read}
use Rattle.peer_index.proofs.index.Index.mark_far_take_placed.Goals as goal

pub far_at-far-requires : goal.far_at-far-requires
far_at-far-requires c =
    let is = rw (← c.self.view_is) at c.requires.index in
    let many = ends_of_all (network_of c.args.graph.now) (the_view c.self.inside) (arc_slice_items c.self.inside.ends) is refl in
    let within = place_within (network_of c.args.graph.now) (Take (event_node c.args.placed.event) c.args.port) c.requires.port in
    let base = c.requires.placed.base in
    rw c.deref.ensures.value (omega arith)

pub set-requires : goal.set-requires
set-requires c =
    let is = rw (← c.self.view_is) at c.requires.index in
    let base = c.requires.placed.base in
    let at : c.args.placed.base + 1 + c.args.port ≡ place (network_of c.args.graph.now) (Take (event_node c.args.placed.event) c.args.port) = omega
    arith in
    let far = far_read (network_of c.args.graph.now) (the_view c.self.inside) (arc_slice_items c.self.inside.ends)
    (event_node c.args.placed.event) c.args.port _ _ is refl c.requires.port at (rw c.deref.ensures.value at c.far_at-far.ensures) in
    let within = place_within (network_of c.args.graph.now) (far_take (network_of c.args.graph.now) (event_node c.args.placed.event) c.args.port)
    (far_has c.args.graph.now (event_node c.args.placed.event) c.args.port c.nodes.ensures.graph c.requires.port) in
    let many = is.many in
    omega arith

pub returns : goal.returns
returns c =
    let is = rw (← c.self.view_is) at c.requires.index in
    let base = c.requires.placed.base in
    let at : c.args.placed.base + 1 + c.args.port ≡ place (network_of c.args.graph.now) (Take (event_node c.args.placed.event) c.args.port) = omega
    arith in
    let far = far_read (network_of c.args.graph.now) (the_view c.self.inside) (arc_slice_items c.self.inside.ends)
    (event_node c.args.placed.event) c.args.port _ _ is refl c.requires.port at (rw c.deref.ensures.value at c.far_at-far.ensures) in
    rw (← c.self.view_is, c.set.ensures, far) refl
