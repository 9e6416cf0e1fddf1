use Rattle.ghs_world.specs.contracts.world.World.{the_view}
use Rattle.ghs_world.proofs.Keeping.{out_lawful, lawful_node}
use Rattle.ghs_world.proofs.world.World.is_counterfoil.Goals as goal

pub work-requires-then-same_event : goal.work-requires-then-same_event
work-requires-then-same_event c =
    out_lawful (the_view c.self.inside) c.args.ticket.now.number c.args.event c.self.invariant.0 (rw (← c.self.view_is) at c.requires)

pub node-requires-then-same_work-clause-low : goal.node-requires-then-same_work-clause-low
node-requires-then-same_work-clause-low c =
    rw c.node_of.ensures (lawful_node c.self.inside.net c.args.event
    (out_lawful (the_view c.self.inside) c.args.ticket.now.number c.args.event c.self.invariant.0 (rw (← c.self.view_is) at c.requires))).0

pub node-requires-then-same_work-clause-high : goal.node-requires-then-same_work-clause-high
node-requires-then-same_work-clause-high c =
    rw c.node_of.ensures (lawful_node c.self.inside.net c.args.event
    (out_lawful (the_view c.self.inside) c.args.ticket.now.number c.args.event c.self.invariant.0 (rw (← c.self.view_is) at c.requires))).1

pub returns-then-same_work-clause-lawful : goal.returns-then-same_work-clause-lawful
returns-then-same_work-clause-lawful c =
    rw (← c.self.view_is)
    (out_lawful (the_view c.self.inside) c.args.ticket.now.number c.args.event c.self.invariant.0 (rw (← c.self.view_is) at c.requires))

pub returns-else-same_work-clause-lawful : goal.returns-else-same_work-clause-lawful
returns-else-same_work-clause-lawful c =
    rw (← c.self.view_is)
    (out_lawful (the_view c.self.inside) c.args.ticket.now.number c.args.event c.self.invariant.0 (rw (← c.self.view_is) at c.requires))
