use Rattle.std.proofs.Common.{length}
use Rattle.ghs_commands.proofs.protocols.+twice_in.Given as goal

abbrev pub decreases-twice_in : goal.decreases-twice_in
decreases-twice_in l = length l.value.now
