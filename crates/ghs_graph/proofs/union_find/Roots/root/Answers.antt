use Rattle.std.proofs.Common.{◌∙◌, sym, ap, get_or, List, ℕ}
use Rattle.ghs_graph.proofs.Climbing.{inside_up, root_at}
use Rattle.ghs_graph.proofs.union_find.Roots.root.Goals as goal

pub climb-requires-clause-x : goal.climb-requires-clause-x
climb-requires-clause-x c = inside_up c.self.inside.up.items c.args.self.now c.self.view_is c.args.x c.requires

pub returns-clause-root : goal.returns-clause-root
returns-clause-root c =
    c.climb.ensures.root
    ∙ sym (root_at c.self.inside.up.items c.args.x (inside_up c.self.inside.up.items c.args.self.now c.self.view_is c.args.x c.requires))
    ∙ ap (λ (rs : List ℕ). get_or rs c.args.x 0) c.self.view_is
