use Rattle.std.proofs.Common.{◌≡◌, ◌-◌, ◌<◌, ◌∙◌, [], ℕ, ap, arith, length, set}
use Rattle.std.proofs.lemmas.List.{get_or_default}
use Rattle.peer_machine.specs.Net.{event_node}
use Rattle.peer_parts.specs.Kept.{counts_at}
use Rattle.peer_parts.proofs.Playing.{followed, node_kept, room}
use Rattle.peer_parts.proofs.nodes.NodePartsFollower.follow.Goals as goal

pub count-requires-clause-fits : goal.count-requires-clause-fits
count-requires-clause-fits g c = λ k lt.
    let r = g.P.Protocol.rules in
    let b = c.requires in
    let kept = rw (← c.self.view_is) at b.kept in
    let old = c.self.inside.parts.items in
    let there = node_kept r g.P.Spoken.words b.before c.args.net.now c.args.event c.args.sends.now c.trace.ensures.run b.happened old kept in
    let node = c.node_of.ensures in
    let inside : c.node_of.result - 1 < length old = omega (arith, node, there) in
    let value = c.index_mut.ensures.value in
    let at : c.behind-self.inside.counts.items ≡ counts_at old c.node_of.result =
    c.behind-self.view_is ∙ value ∙ get_or_default old (c.node_of.result - 1) c.index_mut.result.now [] inside in
    rw (at, node)
    (room r g.P.Spoken.words b.before c.args.net.now c.args.event c.args.sends.now c.trace.ensures.run b.happened old kept
    c.trace.ensures.graph g.P.Protocol.bound g.met.P.Protocol.is_bounded g.met.P.Protocol.bound_fits k lt)

pub returns : goal.returns
returns g c =
    let r = g.P.Protocol.rules in
    let b = c.requires in
    let kept = rw (← c.self.view_is) at b.kept in
    let old = c.self.inside.parts.items in
    let there = node_kept r g.P.Spoken.words b.before c.args.net.now c.args.event c.args.sends.now c.trace.ensures.run b.happened old kept in
    let node = c.node_of.ensures in
    let inside : c.node_of.result - 1 < length old = omega (arith, node, there) in
    let value = c.index_mut.ensures.value in
    let at : c.behind-self.inside.counts.items ≡ counts_at old (event_node c.args.event) =
    c.behind-self.view_is ∙ value ∙ get_or_default old (c.node_of.result - 1) c.index_mut.result.now [] inside ∙ ap (counts_at old) node in
    let counted = rw at at c.count.ensures in
    let new = ap (λ (v : ℕ). set old (v - 1) c.count.new.counts.items) node in
    followed r g.P.Spoken.words b.before c.args.net.now c.args.event c.args.sends.now c.trace.ensures.run b.happened old kept
    c.count.new.counts.items _ counted new
