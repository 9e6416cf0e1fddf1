use Rattle.std.proofs.Common.{◌∙◌, sym, ap}
use Rattle.ghs_graph.specs.Graph.{Shape}
use Rattle.ghs_node.specs.Reaction.{requeues}
use Rattle.peer_network.specs.declared.event.Event.TheVariants.{Take}
use Rattle.ghs_world.specs.WorldState.{home}
use Rattle.ghs_world.specs.contracts.world.World.{the_view}
use Rattle.ghs_world.proofs.Changing.{whole_still}
use Rattle.ghs_world.proofs.Commits.{world_made}
use Rattle.ghs_world.proofs.lemmas.Ready.{ready_lawful}
use Rattle.ghs_world.proofs.PuttingBack.{index_back}
use Rattle.ghs_world.proofs.world.World.put_back.Goals as goal

pub put_back_from-requires-clause-lawful : goal.put_back_from-requires-clause-lawful
put_back_from-requires-clause-lawful c = ready_lawful (the_view c.self.inside) (Take c.args.v c.args.port) (rw (← c.self.view_is) at c.requires.ready)

pub invariant_of-self : goal.invariant_of-self
invariant_of-self c = whole_still (the_view c.self.inside) _ _ c.put_back_from.new.self c.self.invariant c.in_err-put_back_from.ensures.err

pub invariant_of-self-2 : goal.invariant_of-self-2
invariant_of-self-2 c =
    let take = Take c.args.v c.args.port in
    let ready = rw (← c.self.view_is) at c.requires.ready in
    let back = rw (← c.self.view_is) at c.requires.back in
    let done = c.in_ok-put_back_from.ensures in
    rw c.skip_number.ensures (
      world_made (the_view c.self.inside) take (requeues ((home (the_view c.self.inside)).node c.args.v).head) c.put_back_from.new.self (record {
        world = c.self.invariant.0;
        ready = ready;
        turn = rw (← c.self.view_is) at c.requires.turn;
        answer = back;
        graph = done.graph;
        trace = done.trace;
        event = done.event;
      }),
      c.self.invariant.1 ∙ ap (λ (g : Shape). g.nodes) (sym done.graph),
      index_back c.self.inside.net c.put_back_from.new.self c.self.inside.wake c.self.inside.index c.args.v c.args.port c.law_turns.ensures
          c.trace.ensures.graph c.trace.ensures.run c.self.invariant.2 (ready_lawful (the_view c.self.inside) take ready)
          (rw (← c.self.view_is) at c.requires.waits) done.graph done.event,
    )
