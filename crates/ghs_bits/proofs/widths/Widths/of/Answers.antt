use Rattle.std.proofs.Common.{◌∙◌, List, ap, subst}
use Rattle.ghs_graph.specs.Bound.{IsFloorLog2}
use Rattle.ghs_graph.specs.declared.key.Key.{Key}
use Rattle.ghs_bits.specs.Length.{greatest_weight, width_of}
use Rattle.ghs_bits.proofs.Width.{widths_are}
use Rattle.ghs_bits.proofs.widths.Widths.of.Goals as goal

pub returns : goal.returns
returns c =
    let g = c.args.graph.now in
    let k = c.floor_log2-level.result in
    let level = subst (λ n. IsFloorLog2 n k) c.nodes-nodes.ensures.nodes c.floor_log2-level.ensures in
    widths_are g k (record { number = c.width.result; weight = c.width-2.result; level = c.width-3.result }) level
    (c.width.ensures ∙ ap width_of c.nodes-nodes.ensures.nodes)
    (c.width-2.ensures ∙ ap width_of (c.greatest_weight-heaviest.ensures ∙ ap (λ (ks : List Key). greatest_weight ks) c.keys.ensures.keys))
    c.width-3.ensures
