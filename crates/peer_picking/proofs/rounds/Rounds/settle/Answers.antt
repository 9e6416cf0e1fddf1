use Rattle.std.proofs.Common.{◌≡◌, [], arith, length}
use Rattle.std.proofs.lemmas.List.{nil_from_length}
use Rattle.peer_index.specs.Index.{IsIndexOf}
use Rattle.peer_net.specs.NetState.{network}
use Rattle.peer_runs.specs.WorldState.{wakers}
use Rattle.peer_picking.specs.Rounds.{is_in}
use Rattle.peer_picking.specs.Runs.{round_events}
use Rattle.peer_picking.proofs.Settling.{round_index, settled_here, settled_next}
use Rattle.peer_picking.proofs.rounds.Rounds.settle.Goals as goal

pub returns-then-count-gt0 : goal.returns-then-count-gt0
returns-then-count-gt0 g c =
    let r = g.P.Protocol.rules in
    let never = g.met.P.Ends.never_defers in
    let s = c.args.world.now in
    let x = c.args.self.now in
    let here : c.index.result.now ≡ x.here.index = rw (← c.self.view_is) c.index.ensures in
    let of : IsIndexOf (network s.net) (is_in r (wakers s) s.net.graph s.net.trace x.round) c.index.result.now =
    rw here (round_index r never s c.net.ensures.run.0 x c.requires.rounds) in
    let many : c.count.result ≡ length (round_events r s x.round) = c.count.ensures.pass _ _ of in
    let some = c.if-count-gt0.true in
    settled_here r never s c.net.ensures.run.0 x c.requires.rounds (omega (arith, many, some))

pub returns : goal.returns
returns g c =
    let r = g.P.Protocol.rules in
    let never = g.met.P.Ends.never_defers in
    let s = c.args.world.now in
    let x = c.args.self.now in
    let here : c.index.result.now ≡ x.here.index = rw (← c.self.view_is) c.index.ensures in
    let of : IsIndexOf (network s.net) (is_in r (wakers s) s.net.graph s.net.trace x.round) c.index.result.now =
    rw here (round_index r never s c.net.ensures.run.0 x c.requires.rounds) in
    let many : c.count.result ≡ length (round_events r s x.round) = c.count.ensures.pass _ _ of in
    let more = c.if-count-gt0.false in
    let none : round_events r s x.round ≡ [] = nil_from_length (round_events r s x.round) (omega (arith, many, more)) in
    rw (← c.self.view_is, c.swap.ensures.x_after, c.swap.ensures.y_after)
    (rw (← c.self.view_is) at (settled_next r never s c.net.ensures.run.0 x c.requires.rounds none c.requires.some))
