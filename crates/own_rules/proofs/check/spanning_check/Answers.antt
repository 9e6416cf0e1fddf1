use Rattle.std.proofs.Common.{◌∙◌, ap, arith, subst, sym}
use Rattle.ghs_graph.specs.Components.{HasComponents}
use Rattle.ghs_graph.specs.Graph.{IsGraph, Shape}
use Rattle.ghs_graph.specs.Links.{AreAmong, IsRising}
use Rattle.ghs_graph.proofs.lemmas.Components.{forest_has_fewer}
use Rattle.ghs_graph.proofs.lemmas.Computing.{tree, tree_is}
use Rattle.peer_net.specs.NetState.{net_of}
use Rattle.own_rules.specs.Check.{by_some, keys_where}
use Rattle.own_rules.proofs.Checking.{wanted_among, wanted_rise}
use Rattle.own_rules.proofs.check.spanning_check.Goals as goal

pub span-requires-clause-rising : goal.span-requires-clause-rising
span-requires-clause-rising g c =
    let node = (net_of g.P.Protocol.rules c.args.net.now).node in
    let graph = subst IsGraph c.graph-graph.ensures c.keys.ensures.graph in
    let is = c.deref-2.ensures.value ∙ c.in_ok-marked.ensures ∙ ap (keys_where by_some) (c.deref.ensures.value ∙ c.in_ok-links.ensures) in
    subst IsRising (sym is) (wanted_rise c.args.rules.now c.args.net.now.graph node by_some graph)

pub span-requires-clause-among : goal.span-requires-clause-among
span-requires-clause-among g c =
    let node = (net_of g.P.Protocol.rules c.args.net.now).node in
    let graph = subst IsGraph c.graph-graph.ensures c.keys.ensures.graph in
    let is = c.deref-2.ensures.value ∙ c.in_ok-marked.ensures ∙ ap (keys_where by_some) (c.deref.ensures.value ∙ c.in_ok-links.ensures) in
    let many = c.nodes.ensures.nodes ∙ ap (λ (h : Shape). h.nodes) c.graph-graph.ensures in
    subst (λ n. AreAmong n c.deref-2.result.now) (sym many)
    (subst (AreAmong c.args.net.now.graph.nodes) (sym is) (wanted_among c.args.rules.now c.args.net.now.graph node by_some graph))

pub overflow_sub-wanted : goal.overflow_sub-wanted
overflow_sub-wanted g c =
    let graph = subst IsGraph c.graph-graph.ensures c.keys.ensures.graph in
    let ks = c.args.net.now.graph.keys in
    let has = subst (λ h. HasComponents h c.components.result) c.graph-graph.ensures c.components.ensures in
    let few = (forest_has_fewer c.args.net.now.graph graph).2 c.components.result (tree ks) has (tree_is ks graph.rising) in
    let sum = few.1 in
    let many = c.nodes-2.ensures.nodes ∙ ap (λ (h : Shape). h.nodes) c.graph-graph.ensures in
    omega (arith, sum, many)
