use Rattle.std.proofs.Common.{subst, sym}
use Rattle.peer_hand.specs.declared.fault.HandFault.{HandFault}
use Rattle.peer_hand.specs.Led.{LeadsNowhere}
use Rattle.peer_hand.proofs.Leading.{leads}
use Rattle.peer_hand.proofs.Nowhere.{no_run}
use Rattle.peer_hand.proofs.led.led.Goals as goal

pub returns-clause-fault : goal.returns-clause-fault
returns-clause-fault g c =
    let a = c.args in
    let r = g.P.Protocol.rules in
    subst (λ (f : HandFault). LeadsNowhere r a.protocol a.wake a.graph.now a.trace.now f) (sym c.into.ensures)
    (no_run r a.protocol a.wake a.graph.now a.trace.now c.in_ok-graph.graph c.in_ok-events.events.items c.in-Err.fault c.in_ok-graph.ensures.graph
    c.in_ok-events.ensures.events
    (rw c.deref.ensures.value at c.in-Err.ensures.fault))

pub returns-in-Ok-clause-world : goal.returns-in-Ok-clause-world
returns-in-Ok-clause-world g c =
    let a = c.args in
    leads g.P.Protocol.rules a.protocol a.wake a.graph.now a.trace.now c.in_ok-graph.graph c.in_ok-events.events.items c.deref.result.now
    c.in-Ok.world c.in_ok-graph.ensures.graph c.in_ok-events.ensures.events c.deref.ensures.value c.in-Ok.ensures.ok c.net.ensures.run
