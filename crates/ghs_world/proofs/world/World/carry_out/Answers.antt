use Rattle.std.proofs.Common.{◌≡◌, ◌∙◌, sym, ap, subst}
use Rattle.ghs_graph.specs.Graph.{Shape}
use Rattle.ghs_core.specs.NetState.{network, event_node}
use Rattle.ghs_world.specs.Outs.{OutsState}
use Rattle.ghs_world.specs.WorldState.{WorldState}
use Rattle.ghs_world.specs.Steps.{AreReadyOf, HasAllRoused, touched}
use Rattle.ghs_world.specs.contracts.world.World.{the_view}
use Rattle.ghs_world.proofs.Keeping.{out_lawful}
use Rattle.ghs_core.proofs.lemmas.Reacting.{answer_sends}
use Rattle.ghs_world.proofs.Arriving.{arrived_in}
use Rattle.ghs_world.proofs.Changing.{index_but}
use Rattle.ghs_world.proofs.lemmas.Leaving.{lawful_place, place_there}
use Rattle.ghs_world.proofs.Commits.{Done, after_commit, world_after, others_stay, ready_kept, all_roused}
use Rattle.ghs_world.proofs.world.World.carry_out.Goals as goal

pub play_from-requires-clause-lawful : goal.play_from-requires-clause-lawful
play_from-requires-clause-lawful c =
    out_lawful (the_view c.self.inside) c.args.out c.args.event c.self.invariant.0 (rw (← c.self.view_is) at c.requires.out)

pub placed-placed-requires : goal.placed-placed-requires
placed-placed-requires c =
    rw (← c.self.view_is) (place_there (network c.self.inside.net) c.args.event (lawful_place c.self.inside.net c.args.event
    (out_lawful (the_view c.self.inside) c.args.out c.args.event c.self.invariant.0 (rw (← c.self.view_is) at c.requires.out))))

pub mark_changed-requires-clause-placed : goal.mark_changed-requires-clause-placed
mark_changed-requires-clause-placed c = rw c.play_from.ensures.graph (rw (← c.self.view_is) at c.placed-placed.ensures.placed)

pub mark_changed-requires-clause-ports : goal.mark_changed-requires-clause-ports
mark_changed-requires-clause-ports c =
    rw (c.placed-placed.ensures.event, c.play_from.ensures.graph, c.as_slice-sends.ensures)
    (answer_sends c.self.inside.net c.trace.ensures.graph c.trace.ensures.run c.args.event c.args.delta.now
    (out_lawful (the_view c.self.inside) c.args.out c.args.event c.self.invariant.0 (rw (← c.self.view_is) at c.requires.out))
    (rw (← c.self.view_is) at c.requires.answer))

pub mark_changed-requires-clause-arrived : goal.mark_changed-requires-clause-arrived
mark_changed-requires-clause-arrived c =
    rw (c.placed-placed.ensures.event, c.as_slice-sends.ensures) (arrived_in c.self.inside.net c.play_from.new.self c.args.event c.args.delta.now
    c.play_from.ensures.graph c.play_from.ensures.event (rw (← c.self.view_is) at c.requires.answer))

pub mark_changed-requires-clause-index : goal.mark_changed-requires-clause-index
mark_changed-requires-clause-index c =
    rw (c.placed-placed.ensures.event, c.as_slice-sends.ensures)
    (index_but c.self.inside.net c.play_from.new.self c.self.inside.wake c.args.event c.args.delta.now c.self.inside.index c.self.invariant.2
    c.play_from.ensures.graph c.play_from.ensures.event (rw (← c.self.view_is) at c.requires.answer))

done : (c : goal.After-remove) → Done (the_view c.self.inside) c.args.out c.args.event c.args.delta.now c.play_from.new.self
done c = record {
  world = c.self.invariant.0;
  out = rw (← c.self.view_is) at c.requires.out;
  free = c.remove.ensures.home;
  answer = rw (← c.self.view_is) at c.requires.answer;
  graph = c.play_from.ensures.graph;
  trace = c.play_from.ensures.trace;
  event = c.play_from.ensures.event;
}

pub invariant_of-self : goal.invariant_of-self
invariant_of-self c = rw c.remove.ensures.out (
  world_after _ _ _ _ _ (done c),
  c.self.invariant.1 ∙ ap (λ (g : Shape). g.nodes) (sym c.play_from.ensures.graph),
  c.mark_changed.ensures,
)

-- the same, once the nodes are found
found : (c : goal.After-ready_of) → Done (the_view c.self.inside) c.args.out c.args.event c.args.delta.now c.play_from.new.self
found c = record {
  world = c.self.invariant.0;
  out = rw (← c.self.view_is) at c.requires.out;
  free = c.remove.ensures.home;
  answer = rw (← c.self.view_is) at c.requires.answer;
  graph = c.play_from.ensures.graph;
  trace = c.play_from.ensures.trace;
  event = c.play_from.ensures.event;
}

new_world : (c : goal.After-ready_of) → the_view (record {
  net = c.play_from.new.self;
  wake = c.self.inside.wake;
  turns = c.self.inside.turns;
  outs = c.remove.new.self;
  index = c.mark_changed.new.index;
}) ≡ after_commit (the_view c.self.inside) c.args.out c.play_from.new.self
new_world c =
    ap (λ (o : OutsState). record {
      net = c.play_from.new.self;
      wake = c.self.inside.wake;
      turns = c.self.inside.turns;
      outs = o.list;
      last = o.last;
    })
    c.remove.ensures.out

kept : (c : goal.After-ready_of) → AreReadyOf (after_commit (the_view c.self.inside) c.args.out c.play_from.new.self)
    (touched (network c.self.inside.net) (event_node c.args.event) c.args.delta.now.sends) c.ready_of.result
kept c = rw (c.ready_of.ensures, new_world c) (ready_kept _ _ _ (rw (← c.self.view_is) at c.requires.touched))

pub returns-clause-others : goal.returns-clause-others
returns-clause-others c = rw (← c.self.view_is, new_world c) (others_stay _ _ _ _ _ (found c))

pub returns-clause-woken : goal.returns-clause-woken
returns-clause-woken c = rw (← c.self.view_is, new_world c) (kept c)

pub returns-clause-roused : goal.returns-clause-roused
returns-clause-roused c =
    rw (← c.self.view_is) (subst (λ (w : WorldState). HasAllRoused (the_view c.self.inside) w c.ready_of.result) (sym (new_world c))
    (all_roused _ _ _ _ _ (found c) c.ready_of.result (kept c)))
