use Rattle.std.proofs.Common.{◌≡◌, ◌≤◌, ◌^◌, ◌∙◌, ap, length, subst}
use Rattle.ghs_graph.specs.Graph.{Shape}
use Rattle.peer_network.specs.Network.{network_of}
use Rattle.peer_index.specs.Index.{AreBases}
use Rattle.peer_index.specs.Places.{all_events}
use Rattle.peer_net.specs.NetState.{NetState}
use Rattle.peer_picking.proofs.LifoOpening.{latest_opens}
use Rattle.peer_picking.proofs.latest.Latest.of.Goals as goal

pub returns : goal.returns
returns g c =
    let same : c.graph-graph.result.now ≡ c.args.world.now.net.graph = c.graph-graph.ensures ∙ ap (λ (n : NetState). n.graph) c.net.ensures.net in
    latest_opens g.P.Protocol.rules c.args.world.now.net c.requires.trace c.in_ok-places.places c.count.result c.in_ok-ranks.ranks
    (subst (λ (h : Shape). AreBases (network_of h) h.nodes c.in_ok-places.places) same c.in_ok-places.ensures.bases)
    (subst (λ (h : Shape). length (all_events (network_of h)) ≤ 2 ^ 25) same c.in_ok-places.ensures.few)
    (subst (λ (h : Shape). c.count.result ≡ length (all_events (network_of h))) same c.count.ensures) c.in_ok-ranks.ensures
