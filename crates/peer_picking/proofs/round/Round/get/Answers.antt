use Rattle.std.proofs.Common.{◌≡◌, ◌∙◌, arith, slice_index}
use Rattle.std.proofs.lemmas.List.{get_or_default}
use Rattle.peer_network.specs.Network.{network_of}
use Rattle.peer_index.proofs.lemmas.Places.{place_within}
use Rattle.peer_picking.proofs.round.Round.get.Goals as goal

pub index-requires : goal.index-requires
index-requires c =
    let round = rw (← c.self.view_is) at c.requires.round in
    let within = place_within (network_of c.args.graph.now) c.args.placed.event c.requires.placed.event in
    let many = round.many in
    let at = c.place_of.ensures in
    omega (arith, within, many, at)

pub returns : goal.returns
returns c =
    let round = rw (← c.self.view_is) at c.requires.round in
    let within = place_within (network_of c.args.graph.now) c.args.placed.event c.requires.placed.event in
    let many = round.many in
    let at = c.place_of.ensures in
    let read : c.index.result.now ≡ slice_index c.self.inside.counts.items c.place_of.result =
    c.index.ensures ∙ get_or_default c.self.inside.counts.items c.place_of.result c.index.result.now 0 (omega (arith, within, many, at)) in
    rw (← c.self.view_is) (rw at at read)
