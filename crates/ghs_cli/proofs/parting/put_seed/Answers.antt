use Rattle.ghs_cli.proofs.parting.put_seed.Goals as goal

pub returns-in-Ghs : goal.returns-in-Ghs
returns-in-Ghs c = rw c.in-Ghs.is c.put_ghs.ensures
