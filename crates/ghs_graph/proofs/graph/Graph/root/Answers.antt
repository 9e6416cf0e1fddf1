use Rattle.std.proofs.Common.{◌≡◌, ◌≤◌, ◌∙◌, get_or, arith}
use Rattle.std.proofs.lemmas.List.{get_or_default}
use Rattle.ghs_graph.proofs.lemmas.Components.{root_low}
use Rattle.ghs_graph.proofs.graph.Graph.root.Goals as goal

pub returns-clause-node : goal.returns-clause-node
returns-clause-node c =
    let le : c.args.v ≤ c.self.inside.nodes = rw (← c.self.view_is) at c.requires.high in
    let read : c.index.result.now ≡ get_or c.self.inside.roots.items c.args.v 0 = c.index.ensures ∙ get_or_default c.self.inside.roots.items c.args.v
    c.index.result.now 0 (omega (arith, c.self.invariant.roots.places)) in
    root_low c.self.inside.nodes c.self.inside.keys.items c.args.v c.index.result.now c.self.invariant.graph.among c.requires.low le
    (rw read (c.self.invariant.roots.each c.args.v c.requires.low le))
