use Rattle.std.proofs.Common.{filter}
use Rattle.ghs_core.specs.NetState.{network}
use Rattle.peer_index.specs.Places.{all_events}
use Rattle.ghs_rounds.specs.Choices.{hides_in, moves_in}
use Rattle.ghs_rounds.proofs.Picked.{none_left}
use Rattle.ghs_rounds.proofs.choices.Choices.are_none.Goals as goal

pub returns-then-count-eq0-clause-none : goal.returns-then-count-eq0-clause-none
returns-then-count-eq0-clause-none c =
    let s = c.args.world.now in
    let k = c.args.clock.now in
    λ h. none_left (filter (moves_in s k) (all_events (network s.net))) (filter (hides_in s k) (all_events (network s.net)))
    c.count.result c.count-then-count-eq0.result (c.count.ensures.pass (network s.net) (moves_in s k) (rw (← c.self.view_is) at c.requires.moving))
    (c.count-then-count-eq0.ensures.pass (network s.net) (hides_in s k) (rw (← c.self.view_is) at c.requires.hidden)) c.if-count-eq0.true h
