use Rattle.boruvka_protocol.proofs.lemmas.FirstPorts.{first_port_is_least, no_port_no_way_out}
use Rattle.boruvka_protocol.proofs.level_laws.law_first_way_out.Goals as goal

pub returns-clause-least : goal.returns-clause-least
returns-clause-least c = first_port_is_least

pub returns-clause-none : goal.returns-clause-none
returns-clause-none c = no_port_no_way_out
