use Rattle.boruvka_protocol.proofs.bound.Logs.{floor_log2_is}
use Rattle.boruvka_protocol.proofs.laws.law_floors.Goals as goal

pub returns : goal.returns
returns c = floor_log2_is
