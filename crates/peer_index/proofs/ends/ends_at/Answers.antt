use Rattle.peer_index.proofs.FarEnds.{base_told, owner_told}
use Rattle.peer_index.proofs.ends.ends_at.Goals as goal

pub returns-clause-owner : goal.returns-clause-owner
returns-clause-owner c = owner_told c.args.bases.now c.args.ends.now c.args.at _ c.requires.owners c.requires.within

pub returns-clause-base : goal.returns-clause-base
returns-clause-base c = base_told c.args.bases.now c.args.ends.now c.args.at _ c.requires.own c.requires.within
