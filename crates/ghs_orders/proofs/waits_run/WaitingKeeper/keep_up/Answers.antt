use Rattle.ghs_orders.proofs.WaitsStirring.{keeps}
use Rattle.ghs_orders.proofs.waits_run.WaitingKeeper.keep_up.Goals as goal

pub follow-requires-clause-marks : goal.follow-requires-clause-marks
follow-requires-clause-marks c =
    let k = c.requires.kept in
    rw k.2.head (keeps k.0 c.args.world.now c.args.placed.event c.args.delta.now c.args.self.now k.1 k.2.made k.2.answer)
