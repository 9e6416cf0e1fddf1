use Rattle.std.proofs.lemmas.Nat.{one_shl}
use Rattle.ghs_make.proofs.blocks.power.Goals as goal

pub returns : goal.returns
returns c = one_shl c.args.exponent 32 c.requires
