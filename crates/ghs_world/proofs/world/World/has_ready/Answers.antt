use Rattle.std.proofs.Common.{sym, ◌∙◌, ap}
use Rattle.ghs_graph.specs.Graph.{Shape}
use Rattle.peer_network.specs.Network.{is_node, network_of}
use Rattle.ghs_world.specs.contracts.world.World.{the_view}
use Rattle.ghs_world.proofs.Listing.{none_ready}
use Rattle.ghs_world.proofs.world.World.has_ready.Goals as goal

pub returns-then-not-has_node : goal.returns-then-not-has_node
returns-then-not-has_node c =
    rw (← c.self.view_is) (sym (none_ready (the_view c.self.inside) c.args.v
    (sym (ap (λ (g : Shape). is_node (network_of g) c.args.v) c.graph.ensures) ∙ sym c.has_node.ensures ∙ c.if-not-has_node.true)))
