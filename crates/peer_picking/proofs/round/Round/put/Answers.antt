use Rattle.std.proofs.Common.{arith}
use Rattle.peer_network.specs.Network.{network_of}
use Rattle.peer_index.proofs.lemmas.Places.{place_within}
use Rattle.peer_picking.proofs.round.Round.put.Goals as goal

pub index_mut-requires : goal.index_mut-requires
index_mut-requires c =
    let round = rw (← c.self.view_is) at c.requires.round in
    let within = place_within (network_of c.args.graph.now) c.args.placed.event c.requires.placed.event in
    let many = round.many in
    let at = c.place_of.ensures in
    omega (arith, within, many, at)
