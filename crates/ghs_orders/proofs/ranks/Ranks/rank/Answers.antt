use Rattle.std.proofs.Common.{◌≡◌, ◌∙◌, ap, arith}
use Rattle.ghs_graph.specs.Graph.{Shape}
use Rattle.peer_network.specs.Network.{network_of}
use Rattle.ghs_core.specs.NetState.{network}
use Rattle.peer_index.specs.Places.{place}
use Rattle.peer_index.proofs.lemmas.Places.{place_within}
use Rattle.ghs_orders.proofs.ranks.Ranks.rank.Goals as goal

pub set-requires : goal.set-requires
set-requires c =
    let within = place_within (network c.args.world.now.net) c.args.event c.requires.place in
    let many = rw (← c.self.view_is) at c.requires.many in
    let at : c.place_of-at.result ≡ place (network c.args.world.now.net) c.args.event =
    c.place_of-at.ensures ∙ ap (λ (g : Shape). place (network_of g) c.args.event) c.graph.ensures in
    omega (arith, within, many, at)
