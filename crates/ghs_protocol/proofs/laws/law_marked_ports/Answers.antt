use Rattle.ghs_protocol.proofs.every_run.Firsts.{marked_ports_stay}
use Rattle.ghs_protocol.proofs.laws.law_marked_ports.Goals as goal

pub returns : goal.returns
returns c = marked_ports_stay
