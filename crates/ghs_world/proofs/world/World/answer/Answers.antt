use Rattle.ghs_core.specs.NetState.{network}
use Rattle.ghs_world.proofs.lemmas.Leaving.{lawful_place, place_there}
use Rattle.ghs_world.proofs.world.World.answer.Goals as goal

pub placed-placed-requires : goal.placed-placed-requires
placed-placed-requires c = place_there (network c.args.self.now.net) c.args.event (lawful_place c.args.self.now.net c.args.event c.requires)
