use Rattle.std.proofs.Common.{◌≡◌, ◌+◌, ◌*◌, length}
use Rattle.peer_network.specs.Network.{network_of}
use Rattle.peer_index.specs.Places.{all_events}
use Rattle.peer_picking.proofs.Rounding.{many_events, none_round}
use Rattle.peer_picking.proofs.round.Round.none.Goals as goal

pub returns-clause-round : goal.returns-clause-round
returns-clause-round c =
    let g = c.args.graph.now in
    let many : c.nodes.result + 2 * c.links.result ≡ length (all_events (network_of g)) =
    rw (c.nodes.ensures.nodes, c.links.ensures) (many_events g c.nodes.ensures.graph) in
    rw (c.in_ok-counts.ensures.items_if_clones_equal (λ y h. h)) (none_round (network_of g)
    (c.nodes.result + 2 * c.links.result) c.args.index many c.requires)
