use Rattle.std.proofs.Common.{◌+◌, ◌<◌, ◌∙◌, length, ap, arith, get_or, replicate, ℕ}
use Rattle.ghs_graph.specs.Key.{no_key}
use Rattle.ghs_node.specs.Words.{is_branch}
use Rattle.peer_channels.proofs.lemmas.Ports.{ports_few}
use Rattle.ghs_core.proofs.Finding.{nothing_found, among, port_fits, port_has, branch_is, found_more, other_end, ends_a, ends_b, wanted_is}
use Rattle.ghs_core.proofs.marked.branch_links.Goals as goal

pub loop-key-init : goal.loop-key-init
loop-key-init c =
    nothing_found c.args.graph.now c.args.nodes.now c.args.ends _ _
    (c.in_ok-ports.ensures.items_if_clones_equal (λ y e. e) ∙ ap (λ (n : ℕ). replicate (n + 1) 0) c.nodes.ensures.nodes)
    c.new-links.ensures.items

pub mark-requires : goal.mark-requires
mark-requires c =
    let k = c.keys-key-items.ensures.keys in
    let g = c.args.graph.now in
    let i = c.loop-key.key-index in
    let lt : i < length g.keys = rw k at c.loop-key-test.true in
    let r = among g c.args.nodes.now c.requires c.args.ends i c.loop-key.ports.items c.loop-key.links.items c.loop-key.invariant lt in
    port_has g c.args.nodes.now c.requires c.args.ends i c.loop-key.ports.items c.loop-key.links.items c.loop-key.invariant lt
    (get_or g.keys i no_key).a r.0 (omega (arith, r.1, r.2)) c.index.result.now (rw k at c.index.ensures) c.index-nodes-a.result
    (rw k at c.index-nodes-a.is) (ends_a (get_or g.keys i no_key))

pub mark-requires-in-loop-key : goal.mark-requires-in-loop-key
mark-requires-in-loop-key c =
    let k = c.keys-key-items.ensures.keys in
    let g = c.args.graph.now in
    let i = c.loop-key.key-index in
    let lt : i < length g.keys = rw k at c.loop-key-test.true in
    let r = among g c.args.nodes.now c.requires c.args.ends i c.loop-key.ports.items c.loop-key.links.items c.loop-key.invariant lt in
    port_has g c.args.nodes.now c.requires c.args.ends i c.loop-key.ports.items c.loop-key.links.items c.loop-key.invariant lt
    (get_or g.keys i no_key).b (omega (arith, r.0, r.1)) r.2 c.index-in-loop-key.result.now (rw k at c.index-in-loop-key.ensures)
    c.index-nodes-b.result (rw k at c.index-nodes-b.is) (ends_b (get_or g.keys i no_key))

pub overflow_add-index_mut : goal.overflow_add-index_mut
overflow_add-index_mut c =
    let k = c.keys-key-items.ensures.keys in
    let g = c.args.graph.now in
    let i = c.loop-key.key-index in
    let lt : i < length g.keys = rw k at c.loop-key-test.true in
    let r = among g c.args.nodes.now c.requires c.args.ends i c.loop-key.ports.items c.loop-key.links.items c.loop-key.invariant lt in
    let fits = port_fits g c.args.nodes.now c.requires c.args.ends i c.loop-key.ports.items c.loop-key.links.items c.loop-key.invariant lt
    (get_or g.keys i no_key).a r.0 (omega (arith, r.1, r.2)) c.index_mut.result.now (rw k at c.index_mut.ensures.value)
    (ends_a (get_or g.keys i no_key)) in
    let few = ports_few g c.requires.graph (get_or g.keys i no_key).a in
    omega (arith, fits, few)

pub overflow_add-index_mut-in-loop-key : goal.overflow_add-index_mut-in-loop-key
overflow_add-index_mut-in-loop-key c =
    let k = c.keys-key-items.ensures.keys in
    let g = c.args.graph.now in
    let i = c.loop-key.key-index in
    let lt : i < length g.keys = rw k at c.loop-key-test.true in
    let r = among g c.args.nodes.now c.requires c.args.ends i c.loop-key.ports.items c.loop-key.links.items c.loop-key.invariant lt in
    let second = other_end g c.args.nodes.now c.requires c.args.ends i c.loop-key.ports.items c.loop-key.links.items c.loop-key.invariant lt
    (c.index_mut.result.now + 1) c.index_mut-in-loop-key.result.now (rw k at c.index_mut-in-loop-key.ensures.value) in
    let fits = port_fits g c.args.nodes.now c.requires c.args.ends i c.loop-key.ports.items c.loop-key.links.items c.loop-key.invariant lt
    (get_or g.keys i no_key).b (omega (arith, r.0, r.1)) r.2 c.index_mut-in-loop-key.result.now second (ends_b (get_or g.keys i no_key)) in
    let few = ports_few g c.requires.graph (get_or g.keys i no_key).b in
    omega (arith, fits, few)

pub loop-key-preserved : goal.loop-key-preserved
loop-key-preserved c =
    let k = c.keys-key-items.ensures.keys in
    let g = c.args.graph.now in
    let i = c.loop-key.key-index in
    let lt : i < length g.keys = rw k at c.loop-key-test.true in
    let r = among g c.args.nodes.now c.requires c.args.ends i c.loop-key.ports.items c.loop-key.links.items c.loop-key.invariant lt in
    let at_a = branch_is g c.args.nodes.now c.requires c.args.ends i c.loop-key.ports.items c.loop-key.links.items c.loop-key.invariant lt
    (get_or g.keys i no_key).a r.0 (omega (arith, r.1, r.2)) c.index.result.now (rw k at c.index.ensures) c.index-nodes-a.result
    (rw k at c.index-nodes-a.is) in
    let at_b = branch_is g c.args.nodes.now c.requires c.args.ends i c.loop-key.ports.items c.loop-key.links.items c.loop-key.invariant lt
    (get_or g.keys i no_key).b (omega (arith, r.0, r.1)) r.2 c.index-in-loop-key.result.now (rw k at c.index-in-loop-key.ensures)
    c.index-nodes-b.result (rw k at c.index-nodes-b.is) in
    let wanted = wanted_is c.args.ends g.keys c.args.nodes.now (get_or g.keys i no_key) _ _ _ c.are_enough.ensures
    (c.is_branch_mark-at_a.ensures ∙ ap is_branch c.mark.ensures ∙ at_a)
    (c.is_branch_mark-at_b.ensures ∙ ap is_branch c.mark-in-loop-key.ensures ∙ at_b) in
    rw k (found_more g c.args.nodes.now c.requires c.args.ends i c.loop-key.ports.items c.loop-key.links.items c.loop-key.invariant lt
    c.index_mut.result.now c.index_mut-in-loop-key.result.now _ _ (rw k at c.index_mut.ensures.value)
    (rw k at c.index_mut-in-loop-key.ensures.value) wanted (rw k at c.in_ok-push_if.ensures))
