use Rattle.ghs_patient.proofs.lemmas.Stirring.{keeps}
use Rattle.ghs_patient.proofs.run.ChoicesKeeper.keep_up.Goals as goal

pub follow-requires-clause-choices : goal.follow-requires-clause-choices
follow-requires-clause-choices c =
    let k = c.requires.kept in
    rw k.2.head (keeps k.0 c.args.world.now c.args.placed.event c.args.delta.now c.args.self.now k.1 k.2.made k.2.answer)
