use Rattle.peer_net.specs.NetState.{network, net_of}
use Rattle.peer_network.specs.Wakes.{may_wake}
use Rattle.peer_runs.proofs.lemmas.Lawful.{lawful_parts}
use Rattle.peer_runs.proofs.Keeping.{stale, played, still}
use Rattle.peer_runs.proofs.world.World.play_followed.Goals as goal

pub play_placed-requires : goal.play_placed-requires
play_placed-requires g c =
    let r = g.P.Protocol.rules in
    let n = c.self.inside.net in
    record {
      placed = rw (← c.self.view_is) at c.requires.placed;
      lawful = (lawful_parts r (may_wake n.graph c.self.inside.wake) (network n) (net_of r n) c.args.placed.event
          (rw (← c.self.view_is) at c.requires.ready)).1;
    }

pub mark_changed-requires : goal.mark_changed-requires
mark_changed-requires g c = record {
  placed = rw c.play_placed.ensures.graph (rw (← c.self.view_is) at c.requires.placed);
  stale =
      rw c.deref.ensures.value
      (stale g.P.Protocol.rules c.self.inside.net c.play_placed.new.self c.self.inside.wake c.args.placed.event c.self.inside.index c.self.invariant
      (rw (← c.self.view_is) at c.requires.ready) c.play_placed.ensures.graph c.in_ok-sends.sends.items c.in_ok-sends.ensures.event
      c.in_ok-sends.ensures.sends);
}

pub follow-requires : goal.follow-requires
follow-requires g c =
    let r = g.P.Protocol.rules in
    let n = c.self.inside.net in
    record {
      before = n;
      happened =
          record {
            lawful =
                (lawful_parts r (may_wake n.graph c.self.inside.wake) (network n) (net_of r n) c.args.placed.event
                (rw (← c.self.view_is) at c.requires.ready)).1;
            graph = c.play_placed.ensures.graph;
            trace = c.in_ok-sends.ensures.trace;
            event = c.in_ok-sends.ensures.event;
            sends = rw c.deref-2.ensures.value c.in_ok-sends.ensures.sends;
          };
      seen = c.in_ok-seen.ensures;
      kept = rw (← c.self.view_is) at c.requires.kept;
    }

pub invariant_of-self : goal.invariant_of-self
invariant_of-self g c =
    still g.P.Protocol.rules c.self.inside.net c.play_placed.new.self c.self.inside.wake c.self.inside.index c.self.invariant
    c.play_placed.ensures.graph c.in_err-sends.ensures.err

pub invariant_of-self-2 : goal.invariant_of-self-2
invariant_of-self-2 g c =
    played g.P.Protocol.rules c.self.inside.net c.play_placed.new.self c.self.inside.wake c.args.placed.event c.self.inside.index c.self.invariant
    (rw (← c.self.view_is) at c.requires.ready) c.play_placed.ensures.graph c.mark_changed.new.index c.in_ok-sends.ensures.trace
    c.mark_changed.ensures

pub returns-clause-sends : goal.returns-clause-sends
returns-clause-sends g c = rw (← c.self.view_is) c.in_ok-sends.ensures.sends
