use Rattle.std.proofs.Common.{◌+◌, ap, replicate, refl, false, ◌∙◌, ℕ}
use Rattle.ghs_core.proofs.Halting.{none_are}
use Rattle.ghs_core.proofs.halts.Halts.none.Goals as goal

pub returns : goal.returns
returns c =
    none_are c.args.graph.now c.nodes.ensures.graph _ refl
    (c.in_ok-vec.ensures.items_if_clones_equal (λ y e. e) ∙ ap (λ (n : ℕ). replicate (n + 1) false) c.nodes.ensures.nodes)
    c.components.ensures
