use Rattle.std.proofs.Common.{◌∙◌, ap, List}
use Rattle.ghs_graph.specs.Graph.{Shape}
use Rattle.ghs_picking.specs.Lengths.{lengths_of}
use Rattle.peer_network.specs.declared.event.Event.{Event}
use Rattle.ghs_sweep.proofs.figures.figures_of.Goals as goal

pub figures_with-requires : goal.figures_with-requires
figures_with-requires c =
    c.in_ok-lengths.ensures ∙ ap (λ (g : Shape). lengths_of g c.trace.result.now) c.graph.ensures
    ∙ ap (λ (es : List Event). lengths_of c.args.net.now.graph es) c.trace.ensures.trace
