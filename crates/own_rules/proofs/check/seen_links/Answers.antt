use Rattle.std.proofs.Common.{◌∙◌, ap, map}
use Rattle.std.proofs.lemmas.List.{take_all}
use Rattle.ghs_graph.specs.Graph.{Shape}
use Rattle.peer_report.specs.Links.{on_link}
use Rattle.peer_net.specs.NetState.{net_of}
use Rattle.own_rules.proofs.Checking.{seen_all, seen_on}
use Rattle.own_rules.proofs.check.seen_links.Goals as goal

pub returns : goal.returns
returns g c =
    let book = c.args.rules.now in
    let node = (net_of g.P.Protocol.rules c.args.net.now).node in
    let items = c.as_slice-link-items.result.now in
    c.loop-link.invariant
    ∙ ap (map (seen_on book node)) (take_all c.loop-link.link-index items c.loop-link-test.false
    ∙ c.as_slice-link-items.ensures.value ∙ c.in_ok-links.ensures.links ∙ ap (λ (h : Shape). map (on_link h.keys) h.keys) c.graph.ensures)
    ∙ seen_all book c.args.net.now.graph node c.args.net.now.graph.keys
