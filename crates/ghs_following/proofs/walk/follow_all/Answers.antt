use Rattle.std.proofs.Common.{◌∙◌, ◌++◌, ◌∷◌, [], List, ap, arith, sym}
use Rattle.std.specs.List.{slice_index_or}
use Rattle.std.proofs.lemmas.List.{take_all, take_more}
use Rattle.peer_network.specs.declared.event.Event.{Event}
use Rattle.peer_network.specs.declared.event.Event.TheVariants.{Wake}
use Rattle.ghs_following.proofs.lemmas.Moved.{moved}
use Rattle.ghs_following.proofs.Playing.{few_at, lawful_at}
use Rattle.ghs_following.proofs.walk.follow_all.Goals as goal

pub loop-event-init : goal.loop-event-init
loop-event-init g c =
    let graph = c.in-Ok.ensures.graph ∙ c.in_ok-copy.ensures in
    record {
      graph = graph;
      trace = c.in-Ok.ensures.trace;
      kept = moved g.F.Follower.is_of _ _ _ _ _ graph c.in-Ok.ensures.trace c.requires.kept;
    }

pub play-requires-clause-lawful : goal.play-requires-clause-lawful
play-requires-clause-lawful g c =
    lawful_at c.args.graph.now c.args.events.now c.loop-event.event-index _ c.loop-event.net c.loop-event.invariant.graph c.loop-event.invariant.trace
    c.loop-event-test.true c.requires.run

pub play-requires-clause-few : goal.play-requires-clause-few
play-requires-clause-few g c =
    few_at c.args.events.now c.loop-event.event-index c.loop-event.net c.loop-event.invariant.trace c.loop-event-test.true c.requires.few

pub loop-event-preserved : goal.loop-event-preserved
loop-event-preserved g c = record {
  graph = c.in_ok-play.ensures.graph ∙ c.loop-event.invariant.graph;
  trace =
      c.in_ok-play.ensures.trace
      ∙ ap (λ (l : List Event). l ++ slice_index_or c.args.events.now c.loop-event.event-index (Wake 0) ∷ []) c.loop-event.invariant.trace
      ∙ sym (take_more c.args.events.now c.loop-event.event-index (Wake 0) c.loop-event-test.true);
  kept = c.in_ok-play.ensures.kept;
}

pub returns : goal.returns
returns g c =
    let all = c.loop-event.invariant.trace ∙ take_all c.loop-event.event-index c.args.events.now (omega (arith, c.loop-event-test.false)) in
    record { kept = moved g.F.Follower.is_of _ _ _ _ _ (sym c.loop-event.invariant.graph) (sym all) c.loop-event.invariant.kept }
