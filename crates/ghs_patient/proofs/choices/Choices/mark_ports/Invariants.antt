use Rattle.std.proofs.Common.{◌≡◌}
use Rattle.ghs_core.specs.NetState.{event_node, network}
use Rattle.ghs_patient.specs.Choices.{AreFor, marked_to}
use Rattle.ghs_patient.proofs.choices.Choices.mark_ports.Given as goal

abbrev pub invariant-loop-port : goal.invariant-loop-port
invariant-loop-port l = AreFor (network l.world.net) l.self × (l.self ≡ marked_to l.world (event_node l.fn.placed.event) l.port l.fn.self)
