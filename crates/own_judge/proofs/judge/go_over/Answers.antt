use Rattle.std.proofs.Common.{◌∙◌, ◌∷◌, ◌++◌, [], List, ap, get_or, length, sym}
use Rattle.std.proofs.lemmas.List.{length-set, take_more}
use Rattle.ghs_steps.proofs.lemmas.{lawful_net}
use Rattle.peer_network.specs.declared.event.Event.{Event}
use Rattle.peer_network.specs.declared.event.Event.TheVariants.{Wake}
use Rattle.own_judge.proofs.Carried.{ended, own_is, went_on}
use Rattle.own_judge.proofs.Going.{node_low, place_within}
use Rattle.own_judge.proofs.judge.go_over.Goals as goal

pub answer-requires : goal.answer-requires
answer-requires c =
    let inv = c.loop-event.invariant in
    lawful_net c.loop-event.net c.args.graph c.args.events.now c.loop-event.event-index (Wake 0) inv.graph inv.trace c.requires.run
    c.loop-event-test.true

pub look_at-requires-clause-lawful : goal.look_at-requires-clause-lawful
look_at-requires-clause-lawful c =
    let inv = c.loop-event.invariant in
    lawful_net c.loop-event.net c.args.graph c.args.events.now c.loop-event.event-index (Wake 0) inv.graph inv.trace c.requires.run
    c.loop-event-test.true

pub weigh-requires-clause-lawful : goal.weigh-requires-clause-lawful
weigh-requires-clause-lawful c =
    let inv = c.loop-event.invariant in
    lawful_net c.loop-event.net c.args.graph c.args.events.now c.loop-event.event-index (Wake 0) inv.graph inv.trace c.requires.run
    c.loop-event-test.true

pub play-requires-clause-lawful : goal.play-requires-clause-lawful
play-requires-clause-lawful c =
    let inv = c.loop-event.invariant in
    lawful_net c.loop-event.net c.args.graph c.args.events.now c.loop-event.event-index (Wake 0) inv.graph inv.trace c.requires.run
    c.loop-event-test.true

pub overflow_sub-place : goal.overflow_sub-place
overflow_sub-place c =
    let inv = c.loop-event.invariant in
    node_low c.loop-event.net c.args.graph c.args.events.now c.loop-event.event-index (Wake 0) c.node_of.result inv.graph inv.trace
    c.requires.run c.loop-event-test.true c.node_of.ensures

pub index-requires : goal.index-requires
index-requires c =
    let inv = c.loop-event.invariant in
    place_within c.loop-event.net c.args.graph c.args.events.now c.loop-event.event-index (Wake 0) c.node_of.result _ inv.graph inv.trace
    c.requires.run c.loop-event-test.true c.node_of.ensures inv.places

pub index_mut-requires : goal.index_mut-requires
index_mut-requires c =
    let inv = c.loop-event.invariant in
    place_within c.loop-event.net c.args.graph c.args.events.now c.loop-event.event-index (Wake 0) c.node_of.result _ inv.graph inv.trace
    c.requires.run c.loop-event-test.true c.node_of.ensures inv.places

pub returns-in-Some : goal.returns-in-Some
returns-in-Some c =
    let inv = c.loop-event.invariant in
    let lt = c.loop-event-test.true in
    let place =
    place_within c.loop-event.net c.args.graph c.args.events.now c.loop-event.event-index (Wake 0) c.node_of.result
    (length c.loop-event.owns.items) inv.graph inv.trace c.requires.run lt c.node_of.ensures inv.nodes in
    let known = own_is c.loop-event.owns.items c.node_of.result _ c.index.result.now c.node_of.ensures place c.index.ensures in
    let weighed = rw c.in-Some.is at c.in_ok-ends.ensures in
    ended c.args.book.now c.args.kinds.now c.args.graph c.loop-event.net.graph c.args.events.now c.loop-event.net.trace c.loop-event.owns.items
    c.loop-event.event-index (Wake 0) c.index.result.now _ c.loop-event.asked c.weigh.new.asked c.loop-event.text.items c.weigh.new.text.items
    c.in_ok-look.look c.in-Some.end inv.graph inv.trace lt known c.in_ok-look.ensures inv.same inv.empty weighed

pub loop-event-preserved : goal.loop-event-preserved
loop-event-preserved c =
    let inv = c.loop-event.invariant in
    let lt = c.loop-event-test.true in
    let place =
    place_within c.loop-event.net c.args.graph c.args.events.now c.loop-event.event-index (Wake 0) c.node_of.result
    (length c.loop-event.owns.items) inv.graph inv.trace c.requires.run lt c.node_of.ensures inv.nodes in
    let known = own_is c.loop-event.owns.items c.node_of.result _ c.index.result.now c.node_of.ensures place c.index.ensures in
    let weighed = rw c.in-None.is at c.in_ok-ends.ensures in
    let on =
    went_on c.args.book.now c.args.kinds.now c.args.graph c.loop-event.net.graph c.args.events.now c.loop-event.net.trace c.loop-event.owns.items
    c.loop-event.event-index (Wake 0) c.index.result.now _ c.loop-event.asked c.weigh.new.asked c.loop-event.text.items c.weigh.new.text.items
    c.in_ok-look.look inv.graph inv.trace lt known c.in_ok-look.ensures inv.same weighed in
    record {
      graph = c.in_ok-play.ensures.graph ∙ inv.graph;
      trace = c.in_ok-play.ensures.trace
          ∙ (ap (λ (fs : List Event). fs ++ get_or c.args.events.now c.loop-event.event-index (Wake 0) ∷ []) inv.trace
          ∙ sym (take_more c.args.events.now c.loop-event.event-index (Wake 0) lt));
      nodes = length-set _ _ _ ∙ inv.nodes;
      places = inv.places;
      empty = weighed.unasked;
      same = rw (c.into_own.ensures, c.node_of.ensures) on;
    }
