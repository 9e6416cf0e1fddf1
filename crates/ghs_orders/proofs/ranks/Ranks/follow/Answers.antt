use Rattle.std.proofs.Common.{◌∙◌, sym, refl, subst}
use Rattle.ghs_graph.specs.Graph.{IsGraph}
use Rattle.ghs_core.specs.NetState.{NetState}
use Rattle.ghs_orders.proofs.Ranking.{own_all, own_none, own_one, seen}
use Rattle.ghs_orders.proofs.ranks.Ranks.follow.Goals as goal

pub rank_ports-requires-clause-many : goal.rank_ports-requires-clause-many
rank_ports-requires-clause-many c =
    let z =
    seen c.args.world.now c.args.numbers.now.newest c.args.event c.args.before.now c.args.delta.now c.node_of-v.result c.as_slice.result.now
    c.args.self.now c.rank.new.self c.rank_far.new.self
    (subst (λ (n : NetState). IsGraph n.graph) c.net.ensures.net c.trace.ensures.graph) c.node_of-v.ensures c.as_slice.ensures c.requires.place
    c.requires.ports c.requires.ranks
    c.rank.ensures c.rank_far.ensures in
    z.left.many

pub rank-requires-in-Some-clause-place : goal.rank-requires-in-Some-clause-place
rank-requires-in-Some-clause-place c =
    let z =
    seen c.args.world.now c.args.numbers.now.newest c.args.event c.args.before.now c.args.delta.now c.node_of-v.result c.as_slice.result.now
    c.args.self.now c.rank.new.self c.rank_far.new.self
    (subst (λ (n : NetState). IsGraph n.graph) c.net.ensures.net c.trace.ensures.graph) c.node_of-v.ensures c.as_slice.ensures c.requires.place
    c.requires.ports c.requires.ranks
    c.rank.ensures c.rank_far.ensures in
    record { some = z.low; node = z.high; port = rw (c.node_of-v.ensures) (c.requires.own c.in-Some.port (rw c.in-Some.is refl)) }

pub rank-requires-in-Some-clause-many : goal.rank-requires-in-Some-clause-many
rank-requires-in-Some-clause-many c =
    let z =
    seen c.args.world.now c.args.numbers.now.newest c.args.event c.args.before.now c.args.delta.now c.node_of-v.result c.as_slice.result.now
    c.args.self.now c.rank.new.self c.rank_far.new.self
    (subst (λ (n : NetState). IsGraph n.graph) c.net.ensures.net c.trace.ensures.graph) c.node_of-v.ensures c.as_slice.ensures c.requires.place
    c.requires.ports c.requires.ranks
    c.rank.ensures c.rank_far.ensures in
    z.left.many

pub returns-then-not-are_alike : goal.returns-then-not-are_alike
returns-then-not-are_alike c =
    let z =
    seen c.args.world.now c.args.numbers.now.newest c.args.event c.args.before.now c.args.delta.now c.node_of-v.result c.as_slice.result.now
    c.args.self.now c.rank.new.self c.rank_far.new.self
    (subst (λ (n : NetState). IsGraph n.graph) c.net.ensures.net c.trace.ensures.graph) c.node_of-v.ensures c.as_slice.ensures c.requires.place
    c.requires.ports c.requires.ranks
    c.rank.ensures c.rank_far.ensures in
    rw c.rank_ports.ensures (own_all c.args.world.now c.args.numbers.now.newest c.node_of-v.result c.args.before.now c.args.delta.now
    c.rank_far.new.self z _ refl)

pub returns-in-Some : goal.returns-in-Some
returns-in-Some c =
    let z =
    seen c.args.world.now c.args.numbers.now.newest c.args.event c.args.before.now c.args.delta.now c.node_of-v.result c.as_slice.result.now
    c.args.self.now c.rank.new.self c.rank_far.new.self
    (subst (λ (n : NetState). IsGraph n.graph) c.net.ensures.net c.trace.ensures.graph) c.node_of-v.ensures c.as_slice.ensures c.requires.place
    c.requires.ports c.requires.ranks
    c.rank.ensures c.rank_far.ensures in
    rw c.rank-in-Some.ensures (own_one c.args.world.now c.args.numbers.now.newest c.node_of-v.result c.args.before.now c.args.delta.now
    c.rank_far.new.self z (c.in-Some.port, c.in-Some.field-0-1)
    (sym c.are_alike.ensures ∙ c.if-not-are_alike.false) c.in-Some.is
    (record { some = z.low; node = z.high; port = rw (c.node_of-v.ensures) (c.requires.own c.in-Some.port (rw c.in-Some.is refl)) }))

pub returns-in-None : goal.returns-in-None
returns-in-None c =
    let z =
    seen c.args.world.now c.args.numbers.now.newest c.args.event c.args.before.now c.args.delta.now c.node_of-v.result c.as_slice.result.now
    c.args.self.now c.rank.new.self c.rank_far.new.self
    (subst (λ (n : NetState). IsGraph n.graph) c.net.ensures.net c.trace.ensures.graph) c.node_of-v.ensures c.as_slice.ensures c.requires.place
    c.requires.ports c.requires.ranks
    c.rank.ensures c.rank_far.ensures in
    own_none c.args.world.now c.args.numbers.now.newest c.node_of-v.result c.args.before.now c.args.delta.now c.rank_far.new.self z
    (sym c.are_alike.ensures ∙ c.if-not-are_alike.false)
    (λ m is. cc (c.in-None.is, is))
