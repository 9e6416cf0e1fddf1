use Rattle.std.proofs.Common.{◌∙◌, ◌+◌, ap, arith, subst}
use Rattle.ghs_graph.specs.Components.{IsRoot}
use Rattle.ghs_graph.specs.Graph.{Shape}
use Rattle.peer_net.specs.NetState.{net_of}
use Rattle.own_rules.proofs.Checking.{count_fits, root_fits}
use Rattle.own_rules.proofs.check.leader_counts.Goals as goal

pub index_mut-requires : goal.index_mut-requires
index_mut-requires g c =
    let node = (net_of g.P.Protocol.rules c.args.net.now).node in
    let graph = c.args.net.now.graph in
    let i = c.loop-i.i in
    let many = c.nodes-i-end.ensures.nodes ∙ ap (λ (h : Shape). h.nodes) c.graph-graph.ensures in
    let lt = c.loop-i-test.true in
    let top = subst (λ (h : Shape). IsRoot h.keys (i + 1) c.root.result) c.graph-graph.ensures c.root.ensures.root in
    let fits = root_fits c.args.rules.now graph node i c.root.result c.loop-i.counts.items c.loop-i.invariant (omega (arith, lt, many)) top in
    let ok = c.loop-i.counts.ok in
    omega (arith, fits)

pub overflow_add-index_mut : goal.overflow_add-index_mut
overflow_add-index_mut g c =
    let node = (net_of g.P.Protocol.rules c.args.net.now).node in
    let graph = c.args.net.now.graph in
    let i = c.loop-i.i in
    let many = c.nodes-i-end.ensures.nodes ∙ ap (λ (h : Shape). h.nodes) c.graph-graph.ensures in
    let lt = c.loop-i-test.true in
    let top = subst (λ (h : Shape). IsRoot h.keys (i + 1) c.root.result) c.graph-graph.ensures c.root.ensures.root in
    let few = count_fits c.args.rules.now graph node i c.root.result c.index_mut.result.now c.loop-i.counts.items c.loop-i.invariant
    (omega (arith, lt, many)) top c.index_mut.ensures.value in
    let limit = c.nodes-i-end.ensures.graph.nodes in
    let is = c.nodes-i-end.ensures.nodes in
    omega (arith, few, lt, limit, is)
