use Rattle.std.proofs.Common.{arith}
use Rattle.ghs_core.specs.NetState.{network, net_of}
use Rattle.ghs_world.specs.WorldState.{wakers}
use Rattle.ghs_world.specs.contracts.world.World.{the_view}
use Rattle.ghs_world.proofs.Waiting.{out_waits}
use Rattle.ghs_world.proofs.world.World.ledger.Goals as goal

pub overflow_sub-result : goal.overflow_sub-result
overflow_sub-result c =
    let few = out_waits (network c.self.inside.net) (wakers (the_view c.self.inside)) (net_of c.self.inside.net) c.self.inside.outs.list
    c.messages-out.ensures.apart c.self.invariant.0.lawful in
    let q = c.ledger-home.ensures.counts.queued in
    let o = c.messages-out.ensures.messages in
    omega arith

pub returns-clause-counts : goal.returns-clause-counts
returns-clause-counts c =
    let few = out_waits (network c.self.inside.net) (wakers (the_view c.self.inside)) (net_of c.self.inside.net) c.self.inside.outs.list
    c.messages-out.ensures.apart c.self.invariant.0.lawful in
    let l = c.ledger-home.ensures.counts in
    let q = l.queued in
    let o = c.messages-out.ensures.messages in
    let b = l.balance in
    rw (← c.self.view_is) (record {
      sent = l.sent;
      consumed = l.consumed;
      requeued = l.requeued;
      out = o;
      queued = omega arith;
      kinds = l.kinds;
      balance = omega arith;
    })

pub returns-clause-bound : goal.returns-clause-bound
returns-clause-bound c = let b = c.ledger-home.ensures.bound in rw (← c.self.view_is) (record { bound = b.bound; spare = b.spare })
