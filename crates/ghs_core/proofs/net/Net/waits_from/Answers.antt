use Rattle.std.proofs.Common.{sym, ◌∙◌}
use Rattle.ghs_protocol.specs.Run.{net_after}
use Rattle.ghs_core.proofs.PuttingBack.{back_here}
use Rattle.ghs_core.proofs.Reading.{lawful_port, port_below}
use Rattle.peer_channels.proofs.lemmas.Rooms.{port_queue}
use Rattle.ghs_core.proofs.net.Net.waits_from.Goals as goal

pub front_from-requires-clause-port : goal.front_from-requires-clause-port
front_from-requires-clause-port c =
    port_queue c.self.invariant.queues c.args.v c.args.port
    (lawful_port _ (net_after c.self.inside.graph c.self.inside.trace.items) c.args.v c.args.port (rw (← c.self.view_is) at c.requires.lawful))

pub waits-requires : goal.waits-requires
waits-requires c =
    port_below c.self.invariant c.args.v c.args.port c.index.result.now
    (lawful_port _ (net_after c.self.inside.graph c.self.inside.trace.items) c.args.v c.args.port (rw (← c.self.view_is) at c.requires.lawful))
    c.index.ensures

pub returns-in-Some-clause-back : goal.returns-in-Some-clause-back
returns-in-Some-clause-back c = λ up.
    back_here c.self.invariant c.self.view_is c.args.v c.args.port c.index.result.now
    (lawful_port _ (net_after c.self.inside.graph c.self.inside.trace.items) c.args.v c.args.port (rw (← c.self.view_is) at c.requires.lawful))
    c.index.ensures c.in-Some.message (sym c.in-Some.is ∙ c.front_from.ensures) (c.waits.ensures.law.0 up)

pub front_from-requires-clause-start : goal.front_from-requires-clause-start
front_from-requires-clause-start c = rw (← c.self.view_is) at c.requires.start
