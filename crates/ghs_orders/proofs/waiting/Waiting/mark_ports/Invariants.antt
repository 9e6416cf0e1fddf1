use Rattle.std.proofs.Common.{◌≡◌}
use Rattle.ghs_core.specs.NetState.{network}
use Rattle.peer_index.specs.Index.{IsFor}
use Rattle.ghs_orders.specs.Marks.{marked_to}
use Rattle.ghs_orders.proofs.waiting.Waiting.mark_ports.Given as goal

abbrev pub invariant-loop-port : goal.invariant-loop-port
invariant-loop-port l = IsFor (network l.world.net) l.self × (l.self ≡ marked_to l.world l.v l.port l.fn.self)
