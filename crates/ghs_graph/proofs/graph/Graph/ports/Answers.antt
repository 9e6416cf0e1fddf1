use Rattle.std.proofs.Common.{◌≤◌, ◌∙◌, ap}
use Rattle.ghs_graph.specs.Ports.{ports_of}
use Rattle.ghs_graph.specs.Graph.{Shape}
use Rattle.ghs_graph.proofs.Filling.{block_is, block_range}
use Rattle.ghs_graph.proofs.graph.Graph.ports.Goals as goal

pub block-requires-clause-end : goal.block-requires-clause-end
block-requires-clause-end c =
    let le : c.args.v ≤ c.self.inside.nodes = rw (← c.self.view_is) at c.requires.high in
    rw (c.deref.ensures.value, c.deref-2.ensures.value)
    (block_range c.self.inside.nodes c.self.inside.keys.items c.self.inside.layout.starts.items c.self.inside.layout.ports.items c.args.v
    c.self.invariant.laid le).1

pub returns : goal.returns
returns c =
    let le : c.args.v ≤ c.self.inside.nodes = rw (← c.self.view_is) at c.requires.high in
    rw (c.block.ensures, c.deref.ensures.value, c.deref-2.ensures.value)
    (block_is c.self.inside.nodes c.self.inside.keys.items c.self.inside.layout.starts.items c.self.inside.layout.ports.items c.args.v
    c.self.invariant.laid le
    ∙ ap (λ (s : Shape). ports_of s.keys c.args.v) c.self.view_is)
