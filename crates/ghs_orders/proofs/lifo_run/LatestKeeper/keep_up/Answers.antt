use Rattle.ghs_orders.proofs.Stirring.{keeps}
use Rattle.ghs_orders.proofs.lifo_run.LatestKeeper.keep_up.Goals as goal

pub follow-requires-clause-latest : goal.follow-requires-clause-latest
follow-requires-clause-latest c =
    let k = c.requires.kept in
    rw k.2.head (keeps k.0 c.args.world.now c.args.placed.event c.args.delta.now c.args.self.now k.1 k.2.made k.2.answer k.2.run)
