use Rattle.std.proofs.Common.{◌<◌, arith}
use Rattle.ghs_node.specs.declared.work.Work.TheVariants.{Wake, Deliver}
use Rattle.ghs_node.specs.NodeState.{degree}
use Rattle.ghs_node.proofs.Answering.{answered_row, answered_change, answered_memory, answered_unforeseen}
use Rattle.ghs_node.proofs.react.react_into.Goals as goal

pub returns-in-Wake-clause-row : goal.returns-in-Wake-clause-row
returns-in-Wake-clause-row c = rw c.in-Wake.is (answered_row _ Wake c.degree-degree.ensures.node tt _ _ c.wake.ensures)

pub returns-in-Wake-clause-applicable : goal.returns-in-Wake-clause-applicable
returns-in-Wake-clause-applicable c = answered_change _ Wake c.degree-degree.ensures.node tt _ _ c.wake.ensures

pub returns-in-Wake-clause-unforeseen : goal.returns-in-Wake-clause-unforeseen
returns-in-Wake-clause-unforeseen c = rw c.in-Wake.is (answered_unforeseen _ Wake c.degree-degree.ensures.node tt _ _ c.wake.ensures)

pub returns-in-Wake-clause-memory : goal.returns-in-Wake-clause-memory
returns-in-Wake-clause-memory c = rw c.in-Wake.is (answered_memory _ Wake c.degree-degree.ensures.node tt _ _ c.wake.ensures)

pub returns-then-port-degree-clause-row : goal.returns-then-port-degree-clause-row
returns-then-port-degree-clause-row c =
    let port : c.in-Deliver.port < degree c.args.node.now = omega arith in
    rw c.in-Deliver.is (answered_row _ _ c.degree-degree.ensures.node port _ _ c.respond.ensures)

pub returns-then-port-degree-clause-applicable : goal.returns-then-port-degree-clause-applicable
returns-then-port-degree-clause-applicable c =
    let port : c.in-Deliver.port < degree c.args.node.now = omega arith in
    answered_change _ (Deliver c.in-Deliver.port c.in-Deliver.message) c.degree-degree.ensures.node port _ _ c.respond.ensures

pub returns-then-port-degree-clause-unforeseen : goal.returns-then-port-degree-clause-unforeseen
returns-then-port-degree-clause-unforeseen c =
    let port : c.in-Deliver.port < degree c.args.node.now = omega arith in
    rw c.in-Deliver.is (answered_unforeseen _ _ c.degree-degree.ensures.node port _ _ c.respond.ensures)

pub returns-then-port-degree-clause-memory : goal.returns-then-port-degree-clause-memory
returns-then-port-degree-clause-memory c =
    let port : c.in-Deliver.port < degree c.args.node.now = omega arith in
    rw c.in-Deliver.is (answered_memory _ _ c.degree-degree.ensures.node port _ _ c.respond.ensures)
