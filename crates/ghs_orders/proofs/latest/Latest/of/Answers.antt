use Rattle.std.proofs.Common.{◌≡◌, length, subst}
use Rattle.ghs_graph.specs.Graph.{Shape}
use Rattle.peer_network.specs.Network.{network_of}
use Rattle.ghs_core.specs.NetState.{network}
use Rattle.peer_index.specs.Places.{all_events}
use Rattle.ghs_orders.specs.Kept.{AreNumbers}
use Rattle.ghs_orders.specs.Newest.{none_sent}
use Rattle.ghs_orders.proofs.Opening.{latest_opens}
use Rattle.ghs_orders.proofs.latest.Latest.of.Goals as goal

pub returns : goal.returns
returns c =
    let numbers : AreNumbers (network c.args.world.now.net) none_sent c.in_ok-numbers.numbers =
    subst (λ (g : Shape). AreNumbers (network_of g) none_sent c.in_ok-numbers.numbers) c.graph.ensures c.in_ok-numbers.ensures in
    let many : c.count.result ≡ length (all_events (network c.args.world.now.net)) =
    subst (λ (g : Shape). c.count.result ≡ length (all_events (network_of g))) c.graph-2.ensures c.count.ensures in
    latest_opens c.args.world.now c.requires.trace c.in_ok-choices.choices c.in_ok-numbers.numbers c.count.result c.in_ok-ranks.ranks
    c.in_ok-choices.ensures
    numbers many c.in_ok-ranks.ensures
