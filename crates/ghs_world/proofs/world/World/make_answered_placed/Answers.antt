use Rattle.ghs_world.specs.contracts.world.World.{the_view}
use Rattle.ghs_world.proofs.Changing.{whole_still}
use Rattle.ghs_world.proofs.world.World.make_answered_placed.Goals as goal

pub invariant_of-self : goal.invariant_of-self
invariant_of-self c = whole_still (the_view c.self.inside) _ _ c.reserve_from.new.self c.self.invariant c.reserve_from.ensures.net

pub invariant_of-self-2 : goal.invariant_of-self-2
invariant_of-self-2 c = whole_still (the_view c.self.inside) _ _ c.reserve_from.new.self c.self.invariant c.reserve_from.ensures.net
