use Rattle.std.proofs.Common.{◌∙◌, sym, refl, subst}
use Rattle.ghs_graph.specs.Graph.{IsGraph}
use Rattle.ghs_core.specs.NetState.{NetState}
use Rattle.ghs_orders.proofs.Marking.{own_all, own_none, own_one, seen}
use Rattle.ghs_orders.proofs.waiting.Waiting.follow.Goals as goal

pub mark_ports-requires-clause-index : goal.mark_ports-requires-clause-index
mark_ports-requires-clause-index c =
    let z =
    seen c.args.world.now c.args.event c.args.before.now c.args.delta.now c.node_of-v.result c.as_slice.result.now c.args.self.now c.mark.new.self
    c.mark-2.new.self c.mark_far.new.self
    (subst (λ (n : NetState). IsGraph n.graph) c.net.ensures.net c.trace.ensures.graph) c.node_of-v.ensures c.as_slice.ensures c.requires.place
    c.requires.ports c.requires.marks
    c.mark.ensures c.mark-2.ensures c.mark_far.ensures in
    z.left.for_all

pub mark-requires-in-Some-clause-place : goal.mark-requires-in-Some-clause-place
mark-requires-in-Some-clause-place c =
    let z =
    seen c.args.world.now c.args.event c.args.before.now c.args.delta.now c.node_of-v.result c.as_slice.result.now c.args.self.now c.mark.new.self
    c.mark-2.new.self c.mark_far.new.self
    (subst (λ (n : NetState). IsGraph n.graph) c.net.ensures.net c.trace.ensures.graph) c.node_of-v.ensures c.as_slice.ensures c.requires.place
    c.requires.ports c.requires.marks
    c.mark.ensures c.mark-2.ensures c.mark_far.ensures in
    record { some = z.low; node = z.high; port = rw (c.node_of-v.ensures) (c.requires.own c.in-Some.port (rw c.in-Some.is refl)) }

pub mark-requires-in-Some-clause-index : goal.mark-requires-in-Some-clause-index
mark-requires-in-Some-clause-index c =
    let z =
    seen c.args.world.now c.args.event c.args.before.now c.args.delta.now c.node_of-v.result c.as_slice.result.now c.args.self.now c.mark.new.self
    c.mark-2.new.self c.mark_far.new.self
    (subst (λ (n : NetState). IsGraph n.graph) c.net.ensures.net c.trace.ensures.graph) c.node_of-v.ensures c.as_slice.ensures c.requires.place
    c.requires.ports c.requires.marks
    c.mark.ensures c.mark-2.ensures c.mark_far.ensures in
    z.left.for_all

pub returns-then-not-are_alike : goal.returns-then-not-are_alike
returns-then-not-are_alike c =
    let z =
    seen c.args.world.now c.args.event c.args.before.now c.args.delta.now c.node_of-v.result c.as_slice.result.now c.args.self.now c.mark.new.self
    c.mark-2.new.self c.mark_far.new.self
    (subst (λ (n : NetState). IsGraph n.graph) c.net.ensures.net c.trace.ensures.graph) c.node_of-v.ensures c.as_slice.ensures c.requires.place
    c.requires.ports c.requires.marks
    c.mark.ensures c.mark-2.ensures c.mark_far.ensures in
    rw c.mark_ports.ensures (own_all c.args.world.now c.node_of-v.result c.args.before.now c.args.delta.now c.mark_far.new.self z _ refl)

pub returns-in-Some : goal.returns-in-Some
returns-in-Some c =
    let z =
    seen c.args.world.now c.args.event c.args.before.now c.args.delta.now c.node_of-v.result c.as_slice.result.now c.args.self.now c.mark.new.self
    c.mark-2.new.self c.mark_far.new.self
    (subst (λ (n : NetState). IsGraph n.graph) c.net.ensures.net c.trace.ensures.graph) c.node_of-v.ensures c.as_slice.ensures c.requires.place
    c.requires.ports c.requires.marks
    c.mark.ensures c.mark-2.ensures c.mark_far.ensures in
    rw c.mark-in-Some.ensures (own_one c.args.world.now c.node_of-v.result c.args.before.now c.args.delta.now c.mark_far.new.self z
    (c.in-Some.port, c.in-Some.field-0-1)
    (sym c.are_alike.ensures ∙ c.if-not-are_alike.false) c.in-Some.is
    (record { some = z.low; node = z.high; port = rw (c.node_of-v.ensures) (c.requires.own c.in-Some.port (rw c.in-Some.is refl)) }))

pub returns-in-None : goal.returns-in-None
returns-in-None c =
    let z =
    seen c.args.world.now c.args.event c.args.before.now c.args.delta.now c.node_of-v.result c.as_slice.result.now c.args.self.now c.mark.new.self
    c.mark-2.new.self c.mark_far.new.self
    (subst (λ (n : NetState). IsGraph n.graph) c.net.ensures.net c.trace.ensures.graph) c.node_of-v.ensures c.as_slice.ensures c.requires.place
    c.requires.ports c.requires.marks
    c.mark.ensures c.mark-2.ensures c.mark_far.ensures in
    own_none c.args.world.now c.node_of-v.result c.args.before.now c.args.delta.now c.mark_far.new.self z
    (sym c.are_alike.ensures ∙ c.if-not-are_alike.false)
    (λ m is. cc (c.in-None.is, is))
