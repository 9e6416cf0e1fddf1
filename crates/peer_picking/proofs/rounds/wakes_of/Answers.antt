use Rattle.std.proofs.Common.{◌≡◌, ◌∙◌, ap, arith, subst, sym}
use Rattle.ghs_graph.specs.Graph.{Shape}
use Rattle.peer_network.specs.declared.event.Event.{Event}
use Rattle.peer_network.specs.declared.event.Event.TheVariants.{Wake}
use Rattle.peer_network.specs.Network.{network_of}
use Rattle.peer_index.specs.Index.{IsFor}
use Rattle.peer_index.specs.Places.{HasPlace}
use Rattle.peer_net.specs.NetState.{NetState, network}
use Rattle.peer_picking.specs.Kept.{IsRound, count_of, with_count}
use Rattle.peer_picking.proofs.Opening.{all_opened, none_opened, one_opened}
use Rattle.peer_picking.proofs.Rounding.{round_for}
use Rattle.peer_picking.proofs.rounds.wakes_of.Goals as goal

pub loop-v-init : goal.loop-v-init
loop-v-init g c =
    let x = c.in_ok-round.round in
    let same : c.graph-graph.result.now ≡ c.args.world.now.net.graph = c.graph-graph.ensures ∙ ap (λ
    (n : NetState). n.graph) c.net-net.ensures.net in
    none_opened g.P.Protocol.rules c.args.world.now x (subst (λ (h : Shape). IsRound (network_of h) x) same c.in_ok-round.ensures.round)
    (subst (λ (h : Shape). (e : Event) → HasPlace (network_of h) e → count_of (network_of h) x e ≡ 0) same c.in_ok-round.ensures.none)

pub placed-placed-requires-clause-index : goal.placed-placed-requires-clause-index
placed-placed-requires-clause-index g c =
    let same : c.graph-graph.result.now ≡ c.args.world.now.net.graph = c.graph-graph.ensures ∙ ap (λ
    (n : NetState). n.graph) c.net-net.ensures.net in
    rw c.index.ensures
    (subst (λ (h : Shape). IsFor (network_of h) c.loop-v.round.index) (sym same)
    (round_for (network c.args.world.now.net) c.loop-v.round c.loop-v.invariant.round))

pub loop-v-preserved : goal.loop-v-preserved
loop-v-preserved g c =
    let s = c.args.world.now in
    let same : c.graph-graph.result.now ≡ s.net.graph = c.graph-graph.ensures ∙ ap (λ (n : NetState). n.graph) c.net-net.ensures.net in
    let many = c.nodes-v-end.ensures.nodes ∙ ap (λ (h : Shape). h.nodes) same in
    let put : c.put.new.self ≡ with_count (network s.net) (Wake c.loop-v.v) c.once_if.result c.loop-v.round =
    rw c.placed-placed.ensures.event at
    (subst (λ (h : Shape). c.put.new.self ≡ with_count
    (network_of h) c.placed-placed.result.event c.once_if.result c.loop-v.round) same c.put.ensures) in
    rw put
    (one_opened g.P.Protocol.rules s c.loop-v.v c.once_if.result c.loop-v.round (c.loop-v.auto.v, omega (arith, many, c.loop-v-test.true))
    (c.once_if.ensures ∙ c.is_ready.ensures) c.loop-v.invariant)

pub returns : goal.returns
returns g c =
    let s = c.args.world.now in
    let same : c.graph-graph.result.now ≡ s.net.graph = c.graph-graph.ensures ∙ ap (λ (n : NetState). n.graph) c.net-net.ensures.net in
    let many = c.nodes-v-end.ensures.nodes ∙ ap (λ (h : Shape). h.nodes) same in
    all_opened g.P.Protocol.rules s c.loop-v.v c.loop-v.round (omega (arith, many, c.loop-v-test.false)) c.loop-v.invariant
