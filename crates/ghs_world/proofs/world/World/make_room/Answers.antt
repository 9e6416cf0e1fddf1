use Rattle.ghs_core.proofs.lemmas.Reacting.{answer_sends}
use Rattle.ghs_world.specs.contracts.world.World.{the_view}
use Rattle.ghs_world.proofs.Changing.{whole_still}
use Rattle.ghs_world.proofs.world.World.make_room.Goals as goal

pub touched-nodes-requires-clause-ports : goal.touched-nodes-requires-clause-ports
touched-nodes-requires-clause-ports c =
    rw (c.graph.ensures, c.node_of.ensures, c.as_slice.ensures)
    (answer_sends c.self.inside.net c.trace.ensures.graph c.trace.ensures.run c.args.event c.args.delta.now
    (rw (← c.self.view_is) at c.requires.lawful) (rw (← c.self.view_is) at c.requires.answer))

pub invariant_of-self : goal.invariant_of-self
invariant_of-self c = whole_still (the_view c.self.inside) _ _ c.reserve.new.self c.self.invariant c.reserve.ensures.net

pub invariant_of-self-2 : goal.invariant_of-self-2
invariant_of-self-2 c = whole_still (the_view c.self.inside) _ _ c.reserve.new.self c.self.invariant c.reserve.ensures.net
