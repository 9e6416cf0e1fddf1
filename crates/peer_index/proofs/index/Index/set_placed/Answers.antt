use Rattle.std.proofs.Common.{arith}
use Rattle.peer_network.specs.Network.{network_of}
use Rattle.peer_index.proofs.lemmas.Places.{place_within}
use Rattle.peer_index.proofs.index.Index.set_placed.Goals as goal

pub set-requires : goal.set-requires
set-requires c =
    let within = place_within (network_of c.args.graph.now) c.args.placed.event c.requires.placed.event in
    let many = rw (← c.self.view_is) at c.requires.index.many in
    let at = c.place_behind.ensures in
    omega arith
