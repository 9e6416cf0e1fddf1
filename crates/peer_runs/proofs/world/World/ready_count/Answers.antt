use Rattle.std.proofs.Common.{◌≡◌, length, subst}
use Rattle.peer_runs.specs.WorldState.{WorldState, ready_events}
use Rattle.peer_runs.proofs.world.World.ready_count.Goals as goal

pub returns : goal.returns
returns g c =
    subst (λ (s : WorldState). c.count.result ≡ length (ready_events g.P.Protocol.rules s)) c.self.view_is
    (c.count.ensures.pass _ _ c.self.invariant.index)
