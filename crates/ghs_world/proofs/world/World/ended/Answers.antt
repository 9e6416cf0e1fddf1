use Rattle.std.proofs.Common.{◌≡◌, [], subst}
use Rattle.std.specs.Prelude.{IsTrue}
use Rattle.ghs_world.specs.Ready.{ready_events}
use Rattle.ghs_world.specs.WorldState.{WorldState}
use Rattle.ghs_world.specs.contracts.world.World.{the_view}
use Rattle.ghs_world.proofs.Still.{still_has_ended}
use Rattle.ghs_world.proofs.world.World.ended.Goals as goal

pub returns-clause-ended : goal.returns-clause-ended
returns-clause-ended c = rw (← c.self.view_is) c.ended.ensures.ended

pub returns-clause-forest : goal.returns-clause-forest
returns-clause-forest c = rw (← c.self.view_is) c.ended.ensures.forest

pub returns-clause-still : goal.returns-clause-still
returns-clause-still c = subst (λ (s : WorldState). s.outs ≡ [] → ready_events s ≡ [] → IsTrue c.ended.result) c.self.view_is
    (λ out none. c.ended.ensures.ended.1
    (still_has_ended (the_view c.self.inside) c.law_stillness.ensures c.trace.ensures.graph c.trace.ensures.run out none))
