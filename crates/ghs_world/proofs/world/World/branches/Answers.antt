use Rattle.ghs_world.proofs.world.World.branches.Goals as goal

pub returns-clause-tree : goal.returns-clause-tree
returns-clause-tree c = rw (← c.self.view_is) c.branches.ensures.tree

pub returns-clause-forest : goal.returns-clause-forest
returns-clause-forest c = rw (← c.self.view_is) c.branches.ensures.forest
