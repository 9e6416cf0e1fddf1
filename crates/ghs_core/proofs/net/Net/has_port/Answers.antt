use Rattle.std.proofs.Common.{◌≡◌, true, refl, sym, ◌∙◌}
use Rattle.peer_network.specs.Network.{is_node, network_of}
use Rattle.peer_network.proofs.lemmas.Events.{node_of}
use Rattle.ghs_core.proofs.Reading.{node_ports}
use Rattle.ghs_core.proofs.net.Net.has_port.Goals as goal

pub returns-then-has_node : goal.returns-then-has_node
returns-then-has_node c =
    let node : is_node (network_of c.self.inside.graph) c.args.v ≡ true = rw (← c.self.view_is) at (sym c.has_node.ensures ∙ c.if-has_node.true) in
    let there = node_of (network_of c.self.inside.graph) c.args.v node in
    let many = c.degree.ensures.degree ∙ node_ports c.self.invariant c.args.v c.index.result.now there.0 there.1 c.index.ensures in
    rw (← c.self.view_is, node, many) refl
