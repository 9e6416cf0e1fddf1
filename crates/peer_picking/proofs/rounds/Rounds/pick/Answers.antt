use Rattle.std.proofs.Common.{◌≡◌, ◌∙◌, Some, ap, arith, filter, length, slice_get, subst, sym}
use Rattle.ghs_graph.specs.Graph.{Shape}
use Rattle.peer_network.specs.Network.{network_of}
use Rattle.peer_index.specs.Places.{all_events}
use Rattle.peer_index.specs.Index.{IsIndexOf}
use Rattle.peer_net.specs.NetState.{NetState, network}
use Rattle.peer_runs.specs.WorldState.{wakers}
use Rattle.peer_picking.specs.Rounds.{is_in}
use Rattle.peer_picking.specs.Runs.{round_events}
use Rattle.peer_picking.proofs.Settling.{picked_at, round_index}
use Rattle.peer_picking.proofs.rounds.Rounds.pick.Goals as goal

pub pick-place-requires : goal.pick-place-requires
pick-place-requires g c =
    let r = g.P.Protocol.rules in
    let s = c.args.world.now in
    let x = c.args.self.now in
    let here : c.index.result.now ≡ x.here.index = rw (← c.self.view_is) c.index.ensures in
    let of : IsIndexOf (network s.net) (is_in r (wakers s) s.net.graph s.net.trace x.round) c.index.result.now =
    rw here (round_index r g.met.P.Ends.never_defers s c.net-net.ensures.run.0 x c.requires.rounds) in
    let many : c.count.result ≡ length (round_events r s x.round) = c.count.ensures.pass _ _ of in
    let some = c.requires.some in
    omega (arith, many, some)

pub returns-clause-pick : goal.returns-clause-pick
returns-clause-pick g c =
    let r = g.P.Protocol.rules in
    let s = c.args.world.now in
    let x = c.args.self.now in
    let here : c.index.result.now ≡ x.here.index = rw (← c.self.view_is) c.index.ensures in
    let of : IsIndexOf (network s.net) (is_in r (wakers s) s.net.graph s.net.trace x.round) c.index.result.now =
    rw here (round_index r g.met.P.Ends.never_defers s c.net-net.ensures.run.0 x c.requires.rounds) in
    let many : c.count.result ≡ length (round_events r s x.round) = c.count.ensures.pass _ _ of in
    let again : IsIndexOf (network s.net) (is_in r (wakers s) s.net.graph s.net.trace x.round) x.here.index =
    round_index r g.met.P.Ends.never_defers s c.net-net.ensures.run.0 x c.requires.rounds in
    let graph : c.graph.result.now ≡ s.net.graph = c.graph.ensures ∙ ap (λ (n : NetState). n.graph) c.net-net.ensures.net in
    let same : c.index-2.result.now ≡ x.here.index = rw (← c.self.view_is) c.index-2.ensures in
    picked_at (round_events r s x.round) c.args.schedule.now c.count.result c.pick-place.result c.kth_placed.result.event many
    c.pick-place.ensures.pick c.pick-place.ensures.within
    (subst (λ (h : Shape). slice_get (filter (is_in r (wakers s) s.net.graph s.net.trace x.round) (all_events
    (network_of h))) c.pick-place.result ≡
    Some c.kth_placed.result.event) graph
    (c.kth_placed.ensures.event (is_in r (wakers s) s.net.graph s.net.trace x.round)
    (subst (λ (h : Shape). IsIndexOf (network_of h) (is_in r (wakers s) s.net.graph s.net.trace x.round) c.index-2.result.now) (sym graph)
    (rw same again))))
