use Rattle.ghs_world.proofs.Reacting.{only_memory}
use Rattle.ghs_world.proofs.ticket.Ticket.perform.Goals as goal

pub returns-in-Err-clause-fault : goal.returns-in-Err-clause-fault
returns-in-Err-clause-fault c =
    only_memory c.law_list_has_no_row.ensures c.self.inside.node c.self.inside.work c.react.result c.in-Err.fault c.self.invariant
    c.in-Err.is c.react.ensures.no_port c.react.ensures.unforeseen
