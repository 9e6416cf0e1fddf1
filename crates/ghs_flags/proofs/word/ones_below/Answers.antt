use Rattle.std.proofs.Common.{ap}
use Rattle.std.specs.Prelude.{count_ones}
use Rattle.std.proofs.lemmas.Nat.{one_shl, and_mask}
use Rattle.ghs_flags.proofs.word.ones_below.Goals as goal

pub returns : goal.returns
returns c = ap count_ones (rw (one_shl c.args.bit 64 c.requires) (and_mask c.args.word c.args.bit))
