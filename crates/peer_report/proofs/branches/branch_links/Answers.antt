use Rattle.std.proofs.Common.{◌≡◌, ◌∙◌, ◌++◌, ◌∷◌, [], ◌||◌, ap, ap₂, cond, get_or, refl, sym}
use Rattle.ghs_graph.specs.Key.{no_key}
use Rattle.peer_net.specs.NetState.{net_of}
use Rattle.peer_report.specs.Branches.{is_branch_at}
use Rattle.peer_report.specs.declared.links.LinkPorts.{LinkPorts}
use Rattle.peer_report.proofs.Finding.{found_more, link_at}
use Rattle.peer_report.proofs.branches.branch_links.Goals as goal
use Rattle.peer_report.proofs.branches.branch_links.Goals.{then-at_a, else-at_a}

pub loop-link-preserved : goal.loop-link-preserved
loop-link-preserved g c =
    let is_branch = g.P.FindsTree.is_branch in
    let ks = c.args.graph.now.keys in
    let w = net_of g.P.Protocol.rules c.args.net.now in
    let v = c.as_slice-link-items.ensures.value in
    let i = c.loop-link.link-index in
    let k = get_or ks i no_key in
    let at = link_at ks c.as_slice-link-items.result.now i _ (v ∙ c.in_ok-links.ensures.links) c.loop-link-test.true in
    let at_a : c.has_branch-at_a.result ≡ is_branch_at is_branch ks w k.a k =
    c.has_branch-at_a.ensures ∙ ap (λ (l : LinkPorts). is_branch (w.node l.key.a) l.at_a) at.1 in
    let at_b : c.has_branch-at_b.result ≡ is_branch_at is_branch ks w k.b k =
    c.has_branch-at_b.ensures ∙ ap (λ (l : LinkPorts). is_branch (w.node l.key.b) l.at_b) at.1 in
    let either : c.if-at_a.push_if ≡ (c.has_branch-at_a.result || c.has_branch-at_b.result) = elim c.if-at_a.branch [
      | then-at_a b ↦ b.push_if-is ∙ b.if-at_a.true ∙ sym (ap (λ x. x || c.has_branch-at_b.result) b.if-at_a.true)
      | else-at_a b ↦ b.push_if-is ∙ sym (ap (λ x. x || c.has_branch-at_b.result) b.if-at_a.false)
    ] in
    found_more is_branch ks w i c.loop-link.found.items c.push_if.new.links.items k c.has_branch-at_a.result c.has_branch-at_b.result at.0 refl
    c.loop-link.invariant at_a at_b
    (c.in_ok-push_if.ensures
    ∙ ap₂ (λ x (l : LinkPorts). c.loop-link.found.items ++ cond x (l.key ∷ []) []) either at.1)
