use Rattle.boruvka_protocol.proofs.lemmas.WaysUp.{ways_up_lead_to_top}
use Rattle.boruvka_protocol.proofs.level_laws.law_ways_up.Goals as goal

pub returns : goal.returns
returns c = ways_up_lead_to_top
