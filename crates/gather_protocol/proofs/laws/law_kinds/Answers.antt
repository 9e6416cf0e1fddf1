use Rattle.gather_protocol.proofs.Rules.{defers_never, has_kinds}
use Rattle.gather_protocol.proofs.laws.law_kinds.Goals as goal

pub returns : goal.returns
returns c = record { kinds = has_kinds; deferred = defers_never }
