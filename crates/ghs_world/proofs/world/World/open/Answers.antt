use Rattle.std.proofs.Common.{◌∙◌, sym, ap}
use Rattle.ghs_graph.specs.Graph.{Shape}
use Rattle.ghs_world.specs.Outs.{OutsState}
use Rattle.ghs_world.proofs.Keeping.{world_first}
use Rattle.ghs_world.proofs.Changing.{index_first}
use Rattle.ghs_world.proofs.world.World.open.Goals as goal

pub invariant_of-result : goal.invariant_of-result
invariant_of-result c = (
  world_first _ c.in_ok-net.ensures.trace (ap (λ (o : OutsState). o.list) c.in-Ok.ensures) c.requires.few,
  ap (λ (o : OutsState). o.nodes) c.in-Ok.ensures ∙ c.nodes.ensures.nodes ∙ ap (λ (g : Shape). g.nodes) (sym c.in_ok-net.ensures.graph),
  index_first c.in_ok-net.net c.args.graph c.args.wake c.in-Ok-open_index.index c.in_ok-net.ensures.graph c.in_ok-net.ensures.net
      c.in-Ok-open_index.ensures,
)
