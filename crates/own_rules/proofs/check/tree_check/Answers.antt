use Rattle.std.proofs.Common.{◌≡◌, ◌∙◌, Some, ap, find, subst, sym}
use Rattle.std.proofs.lemmas.Result.{IfOk-weaker}
use Rattle.ghs_graph.specs.Graph.{Shape}
use Rattle.ghs_graph.specs.Links.{IsTree}
use Rattle.peer_net.specs.NetState.{net_of}
use Rattle.own_rules.specs.Check.{by_both, by_one, first_odd, keys_where, links_seen, odd_text, one_end_text}
use Rattle.own_rules.proofs.check.tree_check.Goals as goal

pub returns-in-Some : goal.returns-in-Some
returns-in-Some g c =
    let links = links_seen c.args.rules.now c.args.net.now.graph (net_of g.P.Protocol.rules c.args.net.now).node in
    let forest = c.in_ok-forest.forest.items in
    let tree = subst (λ (h : Shape). IsTree h.keys forest) c.graph.ensures c.in_ok-forest.ensures in
    let found : find by_one links ≡ Some c.in-Some.link =
    ap (find by_one) (sym (c.deref.ensures.value ∙ c.in_ok-links.ensures)) ∙ sym c.first_by_one.ensures ∙ c.in-Some.is in
    IfOk-weaker c.link_line.result _ _
    (λ text is. (forest, tree, is ∙ ap (λ o. one_end_text o (odd_text (first_odd (keys_where by_both links) forest))) (sym found)))
    c.link_line.ensures
