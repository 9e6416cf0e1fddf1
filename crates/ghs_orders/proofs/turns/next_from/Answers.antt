use Rattle.ghs_orders.proofs.Worlds.{from_no_node, from_node, from_node_next}
use Rattle.ghs_orders.proofs.turns.next_from.Goals as goal

pub next_event-requires-clause-low : goal.next_event-requires-clause-low
next_event-requires-clause-low c =
    (from_node c.args.world.now c.requires.home c.args.v c.requires.low c.next_node.result c.next_node.ensures c.in-Some.u c.in-Some.is).low

pub next_event-requires-clause-high : goal.next_event-requires-clause-high
next_event-requires-clause-high c =
    (from_node c.args.world.now c.requires.home c.args.v c.requires.low c.next_node.result c.next_node.ensures c.in-Some.u c.in-Some.is).high

pub returns-in-Some : goal.returns-in-Some
returns-in-Some c =
    from_node_next c.args.world.now c.requires.home c.args.v c.requires.low c.next_node.result c.next_node.ensures c.in-Some.u c.in-Some.is
    c.next_event.result c.next_event.ensures

pub returns-in-None : goal.returns-in-None
returns-in-None c = from_no_node c.args.world.now c.requires.home c.args.v c.next_node.result c.next_node.ensures c.in-None.is
