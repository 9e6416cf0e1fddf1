use Rattle.std.proofs.Common.{◌+◌, ◌-◌, ◌∙◌, sym, ap, arith}
use Rattle.ghs_graph.specs.Graph.{Shape}
use Rattle.ghs_world.specs.Outs.{is_out}
use Rattle.ghs_world.specs.WorldState.{WorldState}
use Rattle.ghs_world.specs.Ready.{has_lawful}
use Rattle.ghs_world.proofs.Nodes.{past_start, past_more, past_found, past_none, past_all, found_tells}
use Rattle.ghs_world.proofs.world.World.first_node.Goals as goal

pub loop-from-init : goal.loop-from-init
loop-from-init c = past_start c.args.self.now c.args.low c.max-from.result c.max-from.ensures

pub has_node-requires-clause-low : goal.has_node-requires-clause-low
has_node-requires-clause-low c =
    let tells =
    found_tells (has_lawful c.args.self.now) c.loop-from.from (c.args.self.now.net.graph.nodes + 1 - c.loop-from.from) c.in-Some.v
    (sym c.lawful_from.ensures ∙ c.in-Some.is) in
    let from = tells.from in
    let some = c.loop-from.invariant.some in
    omega arith

pub has_node-requires-clause-high : goal.has_node-requires-clause-high
has_node-requires-clause-high c =
    let tells =
    found_tells (has_lawful c.args.self.now) c.loop-from.from (c.args.self.now.net.graph.nodes + 1 - c.loop-from.from) c.in-Some.v
    (sym c.lawful_from.ensures ∙ c.in-Some.is) in
    let to = tells.to in
    let here = c.loop-from-test.true in
    let seen = ap (λ (s : WorldState). s.net.graph.nodes) c.self.view_is in
    let many = c.nodes.ensures.nodes ∙ ap (λ (g : Shape). g.nodes) c.graph-graph.ensures in
    let outs = c.self.invariant.1 in
    omega arith

pub returns-then-not-has_node : goal.returns-then-not-has_node
returns-then-not-has_node c =
    sym (past_found c.args.self.now c.args.low c.loop-from.from c.in-Some.v c.loop-from.invariant
    (found_tells (has_lawful c.args.self.now) c.loop-from.from (c.args.self.now.net.graph.nodes + 1 - c.loop-from.from) c.in-Some.v
    (sym c.lawful_from.ensures ∙ c.in-Some.is))
    (sym (ap (λ (s : WorldState). is_out s.outs c.in-Some.v) c.self.view_is) ∙ sym c.has_node.ensures ∙ c.if-not-has_node.true))

pub overflow_add-from : goal.overflow_add-from
overflow_add-from c =
    let tells =
    found_tells (has_lawful c.args.self.now) c.loop-from.from (c.args.self.now.net.graph.nodes + 1 - c.loop-from.from) c.in-Some.v
    (sym c.lawful_from.ensures ∙ c.in-Some.is) in
    let to = tells.to in
    let here = c.loop-from-test.true in
    let seen = ap (λ (s : WorldState). s.net.graph.nodes) c.self.view_is in
    let many = c.nodes.ensures.nodes ∙ ap (λ (g : Shape). g.nodes) c.graph-graph.ensures in
    let few = c.nodes.ensures.graph.nodes in
    let same = c.nodes.ensures.nodes in
    omega arith

pub loop-from-smaller : goal.loop-from-smaller
loop-from-smaller c =
    let tells =
    found_tells (has_lawful c.args.self.now) c.loop-from.from (c.args.self.now.net.graph.nodes + 1 - c.loop-from.from) c.in-Some.v
    (sym c.lawful_from.ensures ∙ c.in-Some.is) in
    let from = tells.from in
    let to = tells.to in
    let here = c.loop-from-test.true in
    let seen = ap (λ (s : WorldState). s.net.graph.nodes) c.self.view_is in
    let many = c.nodes.ensures.nodes ∙ ap (λ (g : Shape). g.nodes) c.graph-graph.ensures in
    omega arith

pub loop-from-preserved : goal.loop-from-preserved
loop-from-preserved c =
    past_more c.args.self.now c.args.low c.loop-from.from c.in-Some.v c.loop-from.invariant
    (found_tells (has_lawful c.args.self.now) c.loop-from.from (c.args.self.now.net.graph.nodes + 1 - c.loop-from.from) c.in-Some.v
    (sym c.lawful_from.ensures ∙ c.in-Some.is))
    (sym (ap (λ (s : WorldState). is_out s.outs c.in-Some.v) c.self.view_is) ∙ sym c.has_node.ensures ∙ c.if-not-has_node.false)

pub returns-in-None : goal.returns-in-None
returns-in-None c = sym (past_none c.args.self.now c.args.low c.loop-from.from c.loop-from.invariant (sym c.lawful_from.ensures ∙ c.in-None.is))

pub returns : goal.returns
returns c =
    let above = c.loop-from-test.false in
    let seen = ap (λ (s : WorldState). s.net.graph.nodes) c.self.view_is in
    let many = c.nodes.ensures.nodes ∙ ap (λ (g : Shape). g.nodes) c.graph-graph.ensures in
    sym (past_all c.args.self.now c.args.low c.loop-from.from c.loop-from.invariant (omega arith))
