use Rattle.ghs_world.specs.Tickets.{HasRule}
use Rattle.ghs_world.proofs.Reacting.{has_rule, memory_alone}
use Rattle.ghs_world.proofs.world.World.react_from.Goals as goal

pub returns-clause-memory : goal.returns-clause-memory
returns-clause-memory c =
    let has : HasRule c.node.result.now c.work_from-given.result = rw (c.node.ensures, c.node_of.ensures)
    (has_rule c.self.inside.net c.args.event c.work_from-given.result c.trace.ensures.graph c.trace.ensures.run
    (rw (← c.self.view_is) at c.requires.lawful) c.work_from-given.ensures.work c.work_from-given.ensures.rule) in
    memory_alone c.law_list_has_no_row.ensures c.node.result.now c.work_from-given.result c.react_into.result has
    c.react_into.ensures.no_port c.react_into.ensures.unforeseen
