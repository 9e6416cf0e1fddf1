use Rattle.std.proofs.Common.{◌≡◌, rules}
use Rattle.ghs_graph.specs.Graph.{IsGraph}
use Rattle.ghs_node.specs.declared.work.Work.TheVariants.{Deliver}
use Rattle.ghs_protocol.specs.Run.{IsRun, net_after}
use Rattle.ghs_core.specs.NetState.{net_of, network, work_at}
use Rattle.ghs_core.proofs.Interleaved.{work_has_rule}
use Rattle.ghs_core.proofs.Reading.{lawful_port}
use Rattle.peer_channels.proofs.lemmas.Rooms.{port_queue}
use Rattle.ghs_core.proofs.net.Net.work_from.Goals as goal

pub front_from-requires-clause-port : goal.front_from-requires-clause-port
front_from-requires-clause-port c =
    let lawful = rw (← c.self.view_is, c.in-Take.is) at c.requires.lawful in
    port_queue c.self.invariant.queues c.in-Take.v c.in-Take.port
    (lawful_port _ (net_after c.self.inside.graph c.self.inside.trace.items) c.in-Take.v c.in-Take.port lawful)

pub returns-in-Take-clause-rule : goal.returns-in-Take-clause-rule
returns-in-Take-clause-rule c =
    let graph : IsGraph c.args.self.now.graph = rw (← c.self.view_is) c.self.invariant.graph in
    let run : IsRun (network c.args.self.now) c.args.self.now.trace = rw (← c.self.view_is) c.self.invariant.run in
    let work : Deliver c.in-Take.port c.unwrap.result ≡ work_at (net_of c.args.self.now) c.args.event = search rules in
    work_has_rule _ _ graph run c.args.event _ c.requires.lawful work

pub front_from-requires-clause-start : goal.front_from-requires-clause-start
front_from-requires-clause-start c = rw (← c.self.view_is, c.in-Take.is) at c.requires.start
