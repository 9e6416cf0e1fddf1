use Rattle.std.proofs.Common.{◌≡◌, ◌∙◌, ◌+◌, ap, arith, None, subst, sym}
use Rattle.std.proofs.lemmas.Result.{IfOk-weaker}
use Rattle.ghs_graph.specs.Components.{IsRoot}
use Rattle.ghs_graph.specs.Graph.{Shape}
use Rattle.peer_net.specs.NetState.{net_of}
use Rattle.own_rules.specs.Check.{component_line, first_node, is_misled, leaders_of}
use Rattle.own_rules.proofs.Checking.{misled_at, root_of, roots_are}
use Rattle.own_rules.proofs.check.leader_check.Goals as goal

pub returns-then-many-ne1 : goal.returns-then-many-ne1
returns-then-many-ne1 g c =
    let book = c.args.rules.now in
    let node = (net_of g.P.Protocol.rules c.args.net.now).node in
    let graph = c.args.net.now.graph in
    let root = root_of book graph node in
    let i = c.loop-i.i in
    let ends = c.nodes-i-end.ensures.nodes ∙ ap (λ (h : Shape). h.nodes) c.graph-graph.ensures in
    let lt = c.loop-i-test.true in
    let top = subst (λ (h : Shape). IsRoot h.keys (i + 1) c.root.result) c.graph-graph.ensures c.root.ensures.root in
    let so = misled_at book graph node i c.root.result c.index-many.result.now c.in_ok-counts.counts.items (omega (arith, lt, ends)) top
    c.in_ok-counts.ensures.places c.in_ok-counts.ensures.counts c.index-many.ensures (c.loop-i.invariant root (roots_are book graph node))
    c.if-root-i.true c.if-many-ne1.true in
    IfOk-weaker c.component_line.result _ _
    (λ text is. (root, roots_are book graph node, is ∙ ap (component_line (i + 1)) so.1 ∙ ap (leaders_of book graph node root) (sym so.0)))
    c.component_line.ensures

pub returns : goal.returns
returns g c =
    let book = c.args.rules.now in
    let node = (net_of g.P.Protocol.rules c.args.net.now).node in
    let graph = c.args.net.now.graph in
    let root = root_of book graph node in
    let ends = c.nodes-i-end.ensures.nodes ∙ ap (λ (h : Shape). h.nodes) c.graph-graph.ensures in
    let over = c.loop-i-test.false in
    let end = c.loop-i.auto.i-end in
    let all : c.loop-i.i ≡ graph.nodes = omega (arith, ends, over, end) in
    let none = subst (λ n. first_node (is_misled book graph node root) n ≡ None) all (c.loop-i.invariant root (roots_are book graph node)) in
    (root, roots_are book graph node, c.new.ensures.items ∙ ap (leaders_of book graph node root) (sym none))
