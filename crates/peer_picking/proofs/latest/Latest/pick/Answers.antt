use Rattle.std.proofs.Common.{◌≡◌, ◌∙◌, Some, ap, inl, inr, refl, slice_get, subst}
use Rattle.ghs_graph.specs.Graph.{Shape}
use Rattle.peer_index.specs.Places.{all_events}
use Rattle.peer_index.proofs.lemmas.Places.{only_place}
use Rattle.peer_network.specs.Network.{network_of}
use Rattle.peer_machine.proofs.lemmas.Runs.{after_is_net}
use Rattle.peer_net.specs.NetState.{NetState, net_of, network}
use Rattle.peer_picking.specs.LifoRuns.{newest_in}
use Rattle.peer_picking.proofs.Apart.{of_run}
use Rattle.peer_picking.proofs.Finding.{found, found_none}
use Rattle.peer_picking.proofs.LifoRunning.{picked_is}
use Rattle.peer_picking.proofs.latest.Latest.pick.Goals as goal

pub placed-requires-clause-place : goal.placed-requires-clause-place
placed-requires-clause-place g c =
    (only_place (network_of c.graph-graph.result.now) c.in-Some.at c.event_at.result c.event_at.ensures).0

pub returns-in-Some-clause-next : goal.returns-in-Some-clause-next
returns-in-Some-clause-next g c =
    let r = g.P.Protocol.rules in
    let s = c.args.world.now.net in
    let same : c.graph-graph.result.now ≡ s.graph = c.graph-graph.ensures ∙ ap (λ (n : NetState). n.graph) c.net.ensures.net in
    let at : slice_get (all_events (network s)) c.in-Some.at ≡ Some c.event_at.result =
    subst (λ (h : Shape). slice_get (all_events (network_of h)) c.in-Some.at ≡ Some c.event_at.result) same c.event_at.ensures in
    rw c.placed.ensures.event
    (inl (
      found r (network s) (net_of r s) (newest_in r s) _ (rw (← c.self.view_is) at c.requires.latest) c.in-Some.at c.event_at.result
          c.in-Some.ensures at,
      refl,
    ))

pub returns-in-None-clause-next : goal.returns-in-None-clause-next
returns-in-None-clause-next g c =
    let r = g.P.Protocol.rules in
    let s = c.args.world.now.net in
    inr (
      found_none r (network s) (net_of r s) (newest_in r s) _ (rw (← c.self.view_is) at c.requires.latest)
          (of_run r (network s) s.trace (net_of r s) (after_is_net r s.graph s.trace c.net.ensures.run.0)) c.in-None.ensures,
      picked_is r c.args.world.now c.args.schedule.now c.ready_count.result c.pick.result c.ready_placed_at.result.event c.ready_count.ensures
          c.pick.ensures.pick c.pick.ensures.within c.ready_placed_at.ensures.event,
      c.pick.ensures.next,
    )
