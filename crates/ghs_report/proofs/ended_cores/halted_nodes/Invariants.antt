use Rattle.ghs_core.specs.NetState.{net_of}
use Rattle.ghs_report.specs.Halting.{AreHalted}
use Rattle.ghs_report.proofs.ended_cores.halted_nodes.Given as goal

abbrev pub invariant-loop-v : goal.invariant-loop-v
invariant-loop-v l = AreHalted l.net.graph (net_of l.net) l.v l.halted.items
