use Rattle.std.proofs.Common.{sym, subst}
use Rattle.ghs_core.specs.NetState.{NetState, net_of}
use Rattle.ghs_protocol.specs.Marks.{HasEnded}
use Rattle.ghs_cli.proofs.running.reported.Goals as goal

pub put_ended_cores-requires : goal.put_ended_cores-requires
put_ended_cores-requires c = subst (λ (n : NetState). HasEnded n.graph (net_of n)) (sym c.net-net.ensures.net) c.requires
