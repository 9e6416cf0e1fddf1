use Rattle.std.proofs.Common.{◌≡◌, ℕ, ◌+◌, ◌<◌, ◌∙◌, length, ap, ap₂, arith, get_or, replicate}
use Rattle.ghs_graph.specs.Key.{no_key}
use Rattle.peer_report.specs.Links.{on_link}
use Rattle.peer_report.specs.declared.links.LinkPorts.{LinkPorts}
use Rattle.peer_report.proofs.Walking.{links_within, nothing_walked, port_is, walked_more}
use Rattle.peer_report.proofs.links.link_ports.Goals as goal

pub loop-key-init : goal.loop-key-init
loop-key-init c =
    nothing_walked c.args.graph.now _ _ c.keys-key-items.ensures.graph
    (c.in_ok-ports.ensures.items_if_clones_equal (λ y e. e) ∙ ap (λ (n : ℕ). replicate (n + 1) 0) c.nodes.ensures.nodes)
    c.new-links.ensures.items

pub loop-key-preserved : goal.loop-key-preserved
loop-key-preserved c =
    let k = c.keys-key-items.ensures.keys in
    let ks = c.args.graph.now.keys in
    let i = c.loop-key.key-index in
    let f = c.loop-key.invariant in
    let key = get_or ks i no_key in
    let lt : i < length ks = rw k at c.loop-key-test.true in
    let ends = f.graph.among i no_key lt in
    let at_a = port_is f lt key.a (omega (arith, ends.1, ends.2)) c.index-at_a.result.now (rw k at c.index-at_a.ensures) in
    let at_b = port_is f lt key.b ends.2 c.index-at_b.result.now (rw k at c.index-at_b.ensures) in
    let link : LinkPorts = record { key = key; at_a = c.index-at_a.result.now; at_b = c.index-at_b.result.now } in
    let is : link ≡ on_link ks key = ap₂ (λ (x y : ℕ). record { key = key; at_a = x; at_b = y }) at_a at_b in
    rw k
    (walked_more f lt c.index_mut.result.now c.index_mut-in-loop-key.result.now link c.push.new.self.items
    (rw k at c.index_mut.ensures.value) (rw k at c.index_mut-in-loop-key.ensures.value) is (rw k at c.in_ok-push.ensures.items))

pub returns-clause-ends : goal.returns-clause-ends
returns-clause-ends c =
    links_within c.args.graph.now c.loop-key.key-index _ _ c.loop-key.invariant (rw c.keys-key-items.ensures.keys at c.loop-key-test.false)
