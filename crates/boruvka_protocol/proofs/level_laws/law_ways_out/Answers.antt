use Rattle.boruvka_protocol.proofs.lemmas.WaysOut.{ways_out_lift}
use Rattle.boruvka_protocol.proofs.level_laws.law_ways_out.Goals as goal

pub returns : goal.returns
returns c = ways_out_lift
