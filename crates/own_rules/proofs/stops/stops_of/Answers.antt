use Rattle.std.proofs.Common.{◌≡◌, rules, subst, sym}
use Rattle.peer_net.specs.NetState.{net_of}
use Rattle.own_rules.specs.Stops.{AreWithin, stops_in}
use Rattle.own_rules.proofs.Stopping.{stops_within}
use Rattle.own_rules.proofs.stops.stops_of.Goals as goal

pub returns-clause-nodes : goal.returns-clause-nodes
returns-clause-nodes g c =
    let net = c.args.net.now in
    let node = (net_of g.P.Protocol.rules net).node in
    let is : c.loop-i.stops.items ≡ stops_in node net.graph.nodes = search rules in
    subst (λ xs. AreWithin net.graph.nodes xs) (sym is) (stops_within node net.graph.nodes)
