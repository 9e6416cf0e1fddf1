use Rattle.std.proofs.Common.{◌≡◌, drop}
use Rattle.ghs_core.specs.NetState.{event_node, network}
use Rattle.ghs_patient.specs.Choices.{AreFor, far_takes, marked_all}
use Rattle.ghs_patient.proofs.choices.Choices.mark_far.Given as goal

abbrev pub invariant-loop-port : goal.invariant-loop-port
invariant-loop-port l =
    AreFor (network l.world.net) l.self ×
    (marked_all l.world (far_takes (network l.world.net) (event_node l.fn.placed.event) (drop l.port-index l.sends)) l.self ≡
    marked_all l.world (far_takes (network l.world.net) (event_node l.fn.placed.event) l.sends) l.fn.self)
