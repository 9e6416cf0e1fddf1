use Rattle.peer_index.proofs.FarEnds.{owner_told}
use Rattle.peer_index.proofs.ends.owner_at.Goals as goal

pub returns : goal.returns
returns c = owner_told c.args.bases.now c.args.ends.now c.args.at _ c.requires.owners c.requires.within
