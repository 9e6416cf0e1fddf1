use Rattle.std.proofs.Common.{◌∙◌, ◌≤◌, ◌<◌, length, sym, ap, arith}
use Rattle.std.proofs.lemmas.Bool.{both_ways}
use Rattle.ghs_graph.specs.Links.{Same}
use Rattle.ghs_node.specs.declared.head.Head.{Head}
use Rattle.ghs_core.specs.NetState.{net_of}
use Rattle.ghs_report.proofs.Halts.{halts_one, halts_not}
use Rattle.ghs_report.proofs.ended_cores.halted_nodes.Goals as goal
use Rattle.ghs_report.proofs.ended_cores.halted_nodes.Goals.{then-head, else-head}

pub index_mut-requires : goal.index_mut-requires
index_mut-requires c =
    let z = c.root.ensures.root.least c.loop-v.v Same in
    let p = c.loop-v.invariant.places in
    let t = c.loop-v-test.true in
    let n = c.nodes-v-end.ensures.nodes in
    let g = ap (λ g. g.nodes) c.graph-graph.ensures in
    let long : c.root.result < length c.loop-v.halted.items = omega (arith, z, p, t, n, g) in
    omega (arith, long, c.loop-v.halted.ok)

pub loop-v-preserved : goal.loop-v-preserved
loop-v-preserved c =
    let head = ap (λ (h : Head). h.halted) (c.head.ensures.head ∙ ap (λ n. n.head) c.node.ensures) in
    let within : c.loop-v.v ≤ c.args.net.now.graph.nodes =
    (let t = c.loop-v-test.true in let n = c.nodes-v-end.ensures.nodes in let g = ap (λ g. g.nodes) c.graph-graph.ensures in
    omega (arith, t, n, g)) in
    elim c.if-head.branch [
      | then-head w ↦ rw w.halted-is
          (halts_one c.args.net.now.graph (net_of c.args.net.now) c.loop-v.v c.loop-v.halted.items c.loop-v.invariant w.root.result
          c.loop-v.auto.v within (sym head ∙ w.if-head.true) (rw c.graph-graph.ensures at w.root.ensures.root))
      | else-head w ↦ rw w.halted-is
          (halts_not c.args.net.now.graph (net_of c.args.net.now) c.loop-v.v c.loop-v.halted.items c.loop-v.invariant
          (λ h. both_ways c.head.result.now.halted w.if-head.false (head ∙ h)))
    ]
