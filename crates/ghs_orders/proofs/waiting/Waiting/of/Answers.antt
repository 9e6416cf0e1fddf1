use Rattle.std.proofs.Common.{◌≡◌, ◌≤◌, ◌∙◌, ap, refl, arith}
use Rattle.ghs_graph.specs.Graph.{Shape}
use Rattle.peer_index.proofs.lemmas.Marks.{is_for}
use Rattle.ghs_orders.proofs.Marking.{all_nodes, none_yet, one_node}
use Rattle.ghs_orders.proofs.waiting.Waiting.of.Goals as goal

pub loop-v-init : goal.loop-v-init
loop-v-init c = none_yet c.args.world.now _ (is_for _ _ c.in_ok-unmarked_index.field-0 c.in_ok-unmarked_index.ensures)

pub loop-v-preserved : goal.loop-v-preserved
loop-v-preserved c =
    let many : c.nodes-v-end.result ≡ c.args.world.now.net.graph.nodes =
    c.nodes-v-end.ensures.nodes ∙ ap (λ (g : Shape). g.nodes) c.graph-graph.ensures in
    let low : 1 ≤ c.loop-v.v = c.loop-v.auto.v in
    let below = c.loop-v-test.true in
    let high : c.loop-v.v ≤ c.args.world.now.net.graph.nodes = omega arith in
    rw (c.mark_ports.ensures, c.mark.ensures) (one_node c.args.world.now c.loop-v.v _ c.loop-v.waiting c.loop-v.invariant low high refl)

pub returns : goal.returns
returns c =
    let many : c.nodes-v-end.result ≡ c.args.world.now.net.graph.nodes =
    c.nodes-v-end.ensures.nodes ∙ ap (λ (g : Shape). g.nodes) c.graph-graph.ensures in
    let end = c.loop-v-test.false in
    all_nodes c.args.world.now c.loop-v.v c.loop-v.waiting (omega arith) c.loop-v.invariant
