use Rattle.std.proofs.Common.{◌∙◌, sym, ap}
use Rattle.ghs_graph.specs.Graph.{Shape}
use Rattle.ghs_world.specs.contracts.world.World.{the_view}
use Rattle.ghs_world.proofs.Commits.{world_made}
use Rattle.ghs_world.proofs.lemmas.Ready.{ready_lawful}
use Rattle.ghs_core.proofs.lemmas.Reacting.{answer_sends}
use Rattle.ghs_world.proofs.Arriving.{arrived_in}
use Rattle.ghs_world.proofs.Changing.{index_but}
use Rattle.ghs_world.proofs.world.World.happen.Goals as goal

pub play_from-requires-clause-lawful : goal.play_from-requires-clause-lawful
play_from-requires-clause-lawful c = ready_lawful (the_view c.self.inside) c.args.placed.event (rw (← c.self.view_is) at c.requires.ready)

pub mark_changed-requires-clause-placed : goal.mark_changed-requires-clause-placed
mark_changed-requires-clause-placed c = rw c.play_from.ensures.graph (rw (← c.self.view_is) at c.requires.placed)

pub mark_changed-requires-clause-ports : goal.mark_changed-requires-clause-ports
mark_changed-requires-clause-ports c =
    rw (c.play_from.ensures.graph, c.as_slice-sends.ensures)
    (answer_sends c.self.inside.net c.trace.ensures.graph c.trace.ensures.run c.args.placed.event c.args.answer.now
    (ready_lawful (the_view c.self.inside) c.args.placed.event (rw (← c.self.view_is) at c.requires.ready))
    (rw (← c.self.view_is) at c.requires.answer))

pub mark_changed-requires-clause-arrived : goal.mark_changed-requires-clause-arrived
mark_changed-requires-clause-arrived c =
    rw c.as_slice-sends.ensures (arrived_in c.self.inside.net c.play_from.new.self c.args.placed.event c.args.answer.now
    c.play_from.ensures.graph c.play_from.ensures.event (rw (← c.self.view_is) at c.requires.answer))

pub mark_changed-requires-clause-index : goal.mark_changed-requires-clause-index
mark_changed-requires-clause-index c =
    rw c.as_slice-sends.ensures
    (index_but c.self.inside.net c.play_from.new.self c.self.inside.wake c.args.placed.event c.args.answer.now c.self.inside.index c.self.invariant.2
    c.play_from.ensures.graph c.play_from.ensures.event (rw (← c.self.view_is) at c.requires.answer))

pub invariant_of-self : goal.invariant_of-self
invariant_of-self c = rw c.skip_number.ensures (
  world_made (the_view c.self.inside) c.args.placed.event c.args.answer.now c.play_from.new.self (record {
    world = c.self.invariant.0;
    ready = rw (← c.self.view_is) at c.requires.ready;
    turn = rw (← c.self.view_is) at c.requires.turn;
    answer = rw (← c.self.view_is) at c.requires.answer;
    graph = c.play_from.ensures.graph;
    trace = c.play_from.ensures.trace;
    event = c.play_from.ensures.event;
  }),
  c.self.invariant.1 ∙ ap (λ (g : Shape). g.nodes) (sym c.play_from.ensures.graph),
  c.mark_changed.ensures,
)
