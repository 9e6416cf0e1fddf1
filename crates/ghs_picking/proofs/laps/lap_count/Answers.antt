use Rattle.std.proofs.Common.{◌≤◌, arith}
use Rattle.ghs_picking.proofs.Fitting.{laps_fit}
use Rattle.ghs_picking.proofs.laps.lap_count.Goals as goal

pub overflow_add-result : goal.overflow_add-result
overflow_add-result c =
    let nodes : c.nodes-nodes.result ≤ 1048576 =
    (let is = c.nodes-nodes.ensures.nodes in let few = c.nodes-nodes.ensures.graph.nodes in omega (arith, is, few)) in
    let links : c.links.result ≤ 8388608 =
    (let is = c.links.ensures in let few = c.nodes-nodes.ensures.graph.links in omega (arith, is, few)) in
    let from = c.from.ensures in
    let fits = laps_fit c.nodes-nodes.result c.links.result c.bound.result nodes links c.bound.ensures in
    omega (arith, fits, from)

pub overflow_mul-result : goal.overflow_mul-result
overflow_mul-result c =
    let nodes : c.nodes-nodes.result ≤ 1048576 =
    (let is = c.nodes-nodes.ensures.nodes in let few = c.nodes-nodes.ensures.graph.nodes in omega (arith, is, few)) in
    let links : c.links.result ≤ 8388608 =
    (let is = c.links.ensures in let few = c.nodes-nodes.ensures.graph.links in omega (arith, is, few)) in
    let from = c.from.ensures in
    let fits = laps_fit c.nodes-nodes.result c.links.result c.bound.result nodes links c.bound.ensures in
    omega (arith, fits, from)
