use Rattle.boruvka_protocol.proofs.lemmas.Cores.{parts_lead_to_core}
use Rattle.boruvka_protocol.proofs.level_laws.law_ways_to_core.Goals as goal

pub returns : goal.returns
returns c = parts_lead_to_core
