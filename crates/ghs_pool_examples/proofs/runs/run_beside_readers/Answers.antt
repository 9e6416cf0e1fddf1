use Rattle.std.proofs.Common.{rules}
use Rattle.ghs_pool_examples.proofs.runs.run_beside_readers.Goals as goal

pub join-world-requires-after_bounds : goal.join-world-requires-after_bounds
join-world-requires-after_bounds g c κs within = ((c.told_world-world.ensures, search), ((search rules, search rules), search))
