use Rattle.std.proofs.Common.{◌∙◌, List, arith, subst₂, sym}
use Rattle.std.proofs.lemmas.List.{take_all}
use Rattle.ghs_graph.specs.Graph.{Shape}
use Rattle.peer_network.specs.declared.event.Event.{Event}
use Rattle.peer_network.specs.declared.event.Event.TheVariants.{Wake}
use Rattle.peer_lengths.specs.Lengths.{IsMeterOf}
use Rattle.peer_lengths.proofs.Playing.{lawful_at, next_of}
use Rattle.peer_lengths.proofs.Carrying.{if_told}
use Rattle.peer_lengths.proofs.lengths.lengths_of.Goals as goal

pub loop-event-init : goal.loop-event-init
loop-event-init g c =
    let r = g.P.Protocol.rules in
    let graph = c.in-Ok.ensures.graph ∙ c.in_ok-copy.ensures in
    record {
      graph = graph;
      trace = c.in-Ok.ensures.trace;
      meter =
          subst₂ (λ (h : Shape) (es : List Event). IsMeterOf r g.P.Measured.is_of h es c.in_ok-meter.meter) (sym graph) (sym c.in-Ok.ensures.trace)
          c.in_ok-meter.ensures.meter;
    }

pub look-requires : goal.look-requires
look-requires g c =
    lawful_at g.P.Protocol.rules c.args.graph.now c.args.events.now c.loop-event.event-index _ c.loop-event.net c.loop-event.invariant.graph
    c.loop-event.invariant.trace c.loop-event-test.true c.requires.run

pub play-requires : goal.play-requires
play-requires g c = record {
  lawful =
      lawful_at g.P.Protocol.rules c.args.graph.now c.args.events.now c.loop-event.event-index (Wake 0) c.loop-event.net
      c.loop-event.invariant.graph c.loop-event.invariant.trace c.loop-event-test.true c.requires.run;
}

pub follow-requires : goal.follow-requires
follow-requires g c = record {
  before = c.loop-event.net;
  happened =
      record {
        lawful =
            lawful_at g.P.Protocol.rules c.args.graph.now c.args.events.now c.loop-event.event-index _ c.loop-event.net
            c.loop-event.invariant.graph c.loop-event.invariant.trace c.loop-event-test.true c.requires.run;
        graph = c.play.ensures.graph;
        trace = c.in_ok-sends.ensures.trace;
        event = c.in_ok-sends.ensures.event;
        sends = rw c.deref.ensures.value c.in_ok-sends.ensures.sends;
      };
  seen = c.in_ok-seen.ensures;
  kept = c.loop-event.invariant.meter;
}

pub loop-event-preserved : goal.loop-event-preserved
loop-event-preserved g c = record {
  graph = c.play.ensures.graph ∙ c.loop-event.invariant.graph;
  trace =
      next_of c.args.events.now c.loop-event.net.trace c.play.new.self.trace c.loop-event.event-index (Wake 0) c.loop-event-test.true
      c.loop-event.invariant.trace c.in_ok-sends.ensures.trace;
  meter = c.follow.ensures;
}

pub returns : goal.returns
returns g c =
    let r = g.P.Protocol.rules in
    let kept = c.loop-event.invariant in
    let all = kept.trace ∙ take_all c.loop-event.event-index c.args.events.now (omega (arith, c.loop-event-test.false)) in
    let meter = subst₂ (λ (h : Shape) (es : List Event). IsMeterOf r g.P.Measured.is_of h es c.loop-event.meter) kept.graph all kept.meter in
    let told = if_told r c.args.graph.now c.args.events.now c.loop-event.meter c.lengths.result meter c.lengths.ensures in
    record { chain = told.0; bits = told.1; longest = told.2 }
