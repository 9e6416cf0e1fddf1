use Rattle.ghs_world.proofs.Commits.{step_answers}
use Rattle.ghs_world.proofs.world.World.commit.Goals as goal

pub make_room-requires-clause-answer : goal.make_room-requires-clause-answer
make_room-requires-clause-answer c =
    let out = c.is_counterfoil.ensures.same.0 c.if-not-is_counterfoil.false in
    rw (← c.is_counterfoil.ensures.event c.if-not-is_counterfoil.false)
    (step_answers c.args.self.now c.ticket.result.now c.delta.result.now out c.ticket.ensures.rule
    (rw c.ticket.ensures.ticket c.delta.ensures.row))

pub carry_out-woken-requires-clause-answer : goal.carry_out-woken-requires-clause-answer
carry_out-woken-requires-clause-answer c =
    let out = c.is_counterfoil.ensures.same.0 c.if-not-is_counterfoil.false in
    rw (← c.is_counterfoil.ensures.event c.if-not-is_counterfoil.false, c.make_room.ensures.same.net.graph, c.make_room.ensures.same.net.trace)
    (step_answers c.args.self.now c.ticket.result.now c.delta-3.result.now out c.ticket.ensures.rule
    (rw c.ticket.ensures.ticket c.delta-3.ensures.row))

pub returns-clause-roused : goal.returns-clause-roused
returns-clause-roused c = λ u now before.
    let same = c.make_room.ensures.same in
    c.carry_out-woken.ensures.roused u now (rw (same.net.graph, same.net.trace, same.wake, same.outs) before)
