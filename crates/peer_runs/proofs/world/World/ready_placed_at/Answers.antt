use Rattle.std.proofs.Common.{◌≡◌, length, subst, arith}
use Rattle.peer_runs.specs.WorldState.{WorldState, ready_events}
use Rattle.peer_runs.proofs.world.World.ready_placed_at.Goals as goal

pub overflow_cast-k : goal.overflow_cast-k
overflow_cast-k g c =
    let many =
    subst (λ (s : WorldState). c.count.result ≡ length (ready_events g.P.Protocol.rules s)) c.self.view_is
    (c.count.ensures.pass _ _ c.self.invariant.index) in
    let within = c.requires.within in
    let fits = c.count.type_inv in
    omega (arith, many, within, fits)

pub kth_placed-requires-clause-within : goal.kth_placed-requires-clause-within
kth_placed-requires-clause-within g c =
    let many =
    subst (λ (s : WorldState). c.count.result ≡ length (ready_events g.P.Protocol.rules s)) c.self.view_is
    (c.count.ensures.pass _ _ c.self.invariant.index) in
    let within = c.requires.within in
    let marks = c.count.ensures.count in
    omega (arith, many, within, marks)
