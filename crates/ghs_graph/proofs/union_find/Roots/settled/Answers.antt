use Rattle.ghs_graph.proofs.Climbing.{roots_least}
use Rattle.ghs_graph.proofs.union_find.Roots.settled.Goals as goal

pub returns-clause-least : goal.returns-clause-least
returns-clause-least c = rw (← c.self.view_is) (roots_least c.self.inside.up.items c.self.invariant)
