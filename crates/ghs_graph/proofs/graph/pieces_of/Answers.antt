use Rattle.std.proofs.Common.{◌≤◌, length, arith}
use Rattle.ghs_graph.specs.Graph.{Shape}
use Rattle.ghs_graph.proofs.Pieces.{forest_fits, pieces_are}
use Rattle.ghs_graph.proofs.graph.pieces_of.Goals as goal

pub overflow_cast-count : goal.overflow_cast-count
overflow_cast-count c =
    let g : Shape = record { nodes = c.args.nodes; keys = c.args.keys.now } in
    let fits : length c.in_ok-spanning.spanning.tree.items ≤ c.args.nodes =
    forest_fits g c.in_ok-spanning.spanning.tree.items c.requires c.in_ok-spanning.ensures.tree in
    let few = c.ranges.nodes.fits in
    omega (arith, fits, few)

pub overflow_sub-count : goal.overflow_sub-count
overflow_sub-count c =
    let g : Shape = record { nodes = c.args.nodes; keys = c.args.keys.now } in
    let fits : length c.in_ok-spanning.spanning.tree.items ≤ c.args.nodes =
    forest_fits g c.in_ok-spanning.spanning.tree.items c.requires c.in_ok-spanning.ensures.tree in
    omega (arith, fits)

pub returns-clause-count : goal.returns-clause-count
returns-clause-count c =
    let g : Shape = record { nodes = c.args.nodes; keys = c.args.keys.now } in
    pieces_are g c.in_ok-spanning.spanning.tree.items _ c.requires c.in_ok-spanning.ensures.tree (omega arith)
