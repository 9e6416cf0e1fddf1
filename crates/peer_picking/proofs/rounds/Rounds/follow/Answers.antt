use Rattle.std.proofs.Common.{◌≡◌, ◌∙◌, ◌+◌, ◌^◌, ◌<◌, ap, length, subst, sym}
use Rattle.ghs_graph.specs.Graph.{Shape, IsGraph}
use Rattle.peer_network.specs.declared.event.Event.{Event}
use Rattle.peer_network.specs.Events.{event_node}
use Rattle.peer_network.specs.Network.{network_of}
use Rattle.peer_index.specs.Places.{HasPlace}
use Rattle.peer_net.specs.NetState.{NetState, network}
use Rattle.peer_picking.specs.Kept.{AreRounds, RoundState, RoundsState, count_of, sent_to, without}
use Rattle.peer_picking.proofs.Follows.{ports_before, room_before, rounds_behind}
use Rattle.peer_picking.proofs.rounds.Rounds.follow.Goals as goal

pub send-requires-clause-ports : goal.send-requires-clause-ports
send-requires-clause-ports g c =
    let t = c.args.world.now in
    let graph : IsGraph t.net.graph = subst (λ (n : NetState). IsGraph n.graph) c.net-net.ensures.net c.trace.ensures.graph in
    rw (c.graph-graph.ensures, c.net-net.ensures.net)
    (ports_before g.P.Protocol.rules g.met.P.Ends.never_defers t c.args.placed.event c.args.sends.now c.args.self.now c.requires.before graph
    c.net-net.ensures.run.0)

pub send-requires-clause-room : goal.send-requires-clause-room
send-requires-clause-room g c =
    let t = c.args.world.now in
    let x = c.args.self.now in
    let graph : IsGraph t.net.graph = subst (λ (n : NetState). IsGraph n.graph) c.net-net.ensures.net c.trace.ensures.graph in
    let same : c.graph-graph.result.now ≡ t.net.graph = c.graph-graph.ensures ∙ ap (λ (n : NetState). n.graph) c.net-net.ensures.net in
    let next : c.self.inside.next ≡ x.next = ap (λ (z : RoundsState). z.next) (c.self.view_is ∙ c.take.ensures) in
    subst (λ (h : Shape). (f : Event) → HasPlace (network_of h) f → count_of
    (network_of h) c.self.inside.next f + length c.args.sends.now < 2 ^ 64)
    (sym same)
    (subst (λ (y : RoundState). (f : Event) → HasPlace (network t.net) f → count_of (network t.net) y f + length c.args.sends.now < 2 ^ 64)
    (sym next)
    (room_before g.P.Protocol.rules g.met.P.Ends.never_defers t c.args.placed.event c.args.sends.now x c.requires.before graph
    c.net-net.ensures.run.0 g.met.P.Ends.stays_awake g.P.Protocol.bound g.met.P.Protocol.has_kinds g.met.P.Protocol.is_bounded
    g.met.P.Protocol.bound_fits))

pub returns-clause-rounds : goal.returns-clause-rounds
returns-clause-rounds g c =
    let t = c.args.world.now in
    let x = c.args.self.now in
    let e = c.args.placed.event in
    let ss = c.args.sends.now in
    let graph : IsGraph t.net.graph = subst (λ (n : NetState). IsGraph n.graph) c.net-net.ensures.net c.trace.ensures.graph in
    let same : c.graph-graph.result.now ≡ t.net.graph = c.graph-graph.ensures ∙ ap (λ (n : NetState). n.graph) c.net-net.ensures.net in
    let taken : c.take.new.self ≡ record x { here = without (network t.net) e x.here } =
    subst (λ (h : Shape). c.take.new.self ≡ record x { here = without (network_of h) e x.here }) same c.take.ensures in
    let next : c.self.inside.next ≡ x.next = ap (λ (z : RoundsState). z.next) (c.self.view_is ∙ taken) in
    let out : c.send.new.round ≡ sent_to (network t.net) (event_node e) ss x.next =
    subst (λ (h : Shape). c.send.new.round ≡ sent_to (network_of h) (event_node e) ss c.self.inside.next) same c.send.ensures
    ∙ ap (λ (y : RoundState). sent_to (network t.net) (event_node e) ss y) next in
    subst (λ (y : RoundsState). AreRounds g.P.Protocol.rules t y)
    (sym (ap (λ (z : RoundsState). record { round = z.round; here = z.here; next = c.send.new.round }) (c.self.view_is ∙ taken)
    ∙ ap (λ (y : RoundState). record { round = x.round; here = without (network t.net) e x.here; next = y }) out))
    (rounds_behind g.P.Protocol.rules g.met.P.Ends.never_defers t e ss x c.requires.before graph c.net-net.ensures.run.0 g.met.P.Ends.stays_awake)
