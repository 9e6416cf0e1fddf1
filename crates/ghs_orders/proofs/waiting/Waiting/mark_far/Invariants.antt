use Rattle.std.proofs.Common.{◌≡◌, drop}
use Rattle.ghs_core.specs.NetState.{network}
use Rattle.peer_index.specs.Index.{IsFor}
use Rattle.ghs_patient.specs.Choices.{far_takes}
use Rattle.ghs_orders.specs.Marks.{marked_all}
use Rattle.ghs_orders.proofs.waiting.Waiting.mark_far.Given as goal

abbrev pub invariant-loop-port : goal.invariant-loop-port
invariant-loop-port l =
    IsFor (network l.world.net) l.self ×
    (marked_all l.world (far_takes (network l.world.net) l.v (drop l.port-index l.sends)) l.self ≡
    marked_all l.world (far_takes (network l.world.net) l.v l.sends) l.fn.self)
