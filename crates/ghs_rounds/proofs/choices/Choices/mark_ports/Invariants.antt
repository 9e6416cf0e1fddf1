use Rattle.std.proofs.Common.{◌≡◌}
use Rattle.ghs_core.specs.NetState.{network}
use Rattle.ghs_rounds.specs.Choices.{AreFor, marked_to}
use Rattle.ghs_rounds.proofs.choices.Choices.mark_ports.Given as goal

abbrev pub invariant-loop-port : goal.invariant-loop-port
invariant-loop-port l = AreFor (network l.world.net) l.self × (l.self ≡ marked_to l.world l.clock l.v l.port l.fn.self)
