use Rattle.std.proofs.Common.{◌≡◌, ap, length, filter, subst, arith}
use Rattle.ghs_core.specs.NetState.{network}
use Rattle.peer_index.specs.Places.{all_events}
use Rattle.ghs_world.specs.WorldState.{WorldState, may_happen}
use Rattle.ghs_world.proofs.Listing.{ready_all}
use Rattle.ghs_world.proofs.world.World.ready_placed.Goals as goal

pub overflow_cast-k : goal.overflow_cast-k
overflow_cast-k c =
    let same = ap length (ready_all c.args.self.now c.requires.home) in
    let within = c.requires.within in
    let many = subst (λ (s : WorldState). c.count.result ≡ length (filter (may_happen s) (all_events (network s.net)))) c.self.view_is
    (c.count.ensures.pass _ _ c.self.invariant.2) in
    let fits = c.count.type_inv in
    omega arith
