use Rattle.ghs_core.specs.NetState.{net_of}
use Rattle.ghs_report.specs.Components.{AreBelow, HasEndedIn}
use Rattle.ghs_report.proofs.ended_cores.ended_in.Given as goal

abbrev pub invariant-loop-v : goal.invariant-loop-v
invariant-loop-v l = AreBelow l.net.graph (HasEndedIn l.net.graph (net_of l.net)) l.v l.components.items
