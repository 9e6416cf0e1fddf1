use Rattle.std.proofs.Common.{◌≡◌, ◌∙◌, ℕ, ap, arith, replicate}
use Rattle.peer_parts.proofs.Playing.{none_sent}
use Rattle.peer_parts.proofs.nodes.NodeParts.none.Goals as goal

pub returns : goal.returns
returns g c =
    let r = g.P.Protocol.rules in
    let past = c.loop-test.false in
    let most = c.loop.auto.counter-end in
    let nodes = c.nodes-count.ensures.nodes in
    let end : c.loop.counter ≡ c.args.graph.now.nodes = omega (arith, past, most, nodes) in
    none_sent r g.P.Spoken.words c.args.graph.now c.loop.parts.items
    (c.loop.invariant ∙ ap (λ (n : ℕ). replicate n (replicate r.kinds 0)) end)
