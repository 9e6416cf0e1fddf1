use Rattle.std.proofs.Common.{◌≡◌, arith}
use Rattle.peer_network.specs.declared.event.Event.TheVariants.{Take}
use Rattle.peer_network.specs.Network.{far, far_port, network_of}
use Rattle.peer_network.proofs.lemmas.Graphs.{graph_wired}
use Rattle.peer_index.specs.Places.{place}
use Rattle.peer_index.proofs.lemmas.Places.{place_within}
use Rattle.peer_picking.proofs.latest.Latest.send_on.Goals as goal

pub place_of-at-requires-clause-place : goal.place_of-at-requires-clause-place
place_of-at-requires-clause-place c =
    rw c.ports.ensures ((graph_wired c.args.graph.now c.nodes.ensures.graph).there c.args.v c.args.port c.requires.port)

pub set-requires : goal.set-requires
set-requires c =
    let g = network_of c.args.graph.now in
    let there = (graph_wired c.args.graph.now c.nodes.ensures.graph).there c.args.v c.args.port c.requires.port in
    let within = place_within g (Take (far g c.args.v c.args.port) (far_port g c.args.v c.args.port)) there in
    let at : c.place_of-at.result ≡ place g (Take (far g c.args.v c.args.port) (far_port g c.args.v c.args.port)) = rw c.ports.ensures at
    c.place_of-at.ensures in
    let kept = rw (← c.self.view_is) at c.requires.kept in
    let many = kept.many in
    omega (arith, within, many, at)
