use Rattle.std.proofs.Common.{◌≡◌, ◌∙◌, ap, subst}
use Rattle.ghs_graph.specs.Graph.{Shape}
use Rattle.peer_network.specs.declared.event.Event.{Event}
use Rattle.peer_network.specs.Network.{network_of}
use Rattle.peer_index.specs.Places.{HasPlace}
use Rattle.peer_net.specs.NetState.{NetState}
use Rattle.peer_picking.specs.Kept.{IsRound, count_of}
use Rattle.peer_picking.proofs.Opening.{rounds_open}
use Rattle.peer_picking.proofs.rounds.Rounds.of.Goals as goal

pub returns-clause-rounds : goal.returns-clause-rounds
returns-clause-rounds g c =
    let s = c.args.world.now in
    let next = c.in_ok-next.next in
    let same : c.graph-graph.result.now ≡ s.net.graph = c.graph-graph.ensures ∙ ap (λ (n : NetState). n.graph) c.net.ensures.net in
    rounds_open g.P.Protocol.rules s c.in_ok-here.here next c.requires.trace c.in_ok-here.ensures
    (subst (λ (h : Shape). IsRound (network_of h) next) same c.in_ok-next.ensures.round)
    (subst (λ (h : Shape). (e : Event) → HasPlace (network_of h) e → count_of (network_of h) next e ≡ 0) same c.in_ok-next.ensures.none)
