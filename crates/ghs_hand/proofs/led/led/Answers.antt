use Rattle.std.proofs.Common.{subst, sym}
use Rattle.peer_hand.specs.declared.fault.HandFault.{HandFault}
use Rattle.ghs_hand.specs.Led.{LeadsNowhere}
use Rattle.ghs_hand.proofs.Nowhere.{no_run}
use Rattle.ghs_hand.proofs.led.led.Goals as goal

pub returns-clause-fault : goal.returns-clause-fault
returns-clause-fault c =
    let a = c.args in
    subst (λ (f : HandFault). LeadsNowhere a.wake a.graph.now a.trace.now f) (sym c.into.ensures)
    (no_run a.wake a.graph.now a.trace.now c.in_ok-graph.graph c.in_ok-events.events.items c.in-Err.fault c.in_ok-graph.ensures.graph
    c.in_ok-events.ensures.events
    (rw c.deref.ensures.value at c.in-Err.ensures.fault))
