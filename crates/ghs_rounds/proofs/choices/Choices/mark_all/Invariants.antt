use Rattle.std.proofs.Common.{◌≡◌, drop}
use Rattle.ghs_core.specs.NetState.{network}
use Rattle.ghs_rounds.specs.Choices.{AreFor, marked_all}
use Rattle.ghs_rounds.proofs.choices.Choices.mark_all.Given as goal

abbrev pub invariant-loop-event : goal.invariant-loop-event
invariant-loop-event l =
    AreFor (network l.world.net) l.self ×
    (marked_all l.world l.clock (drop l.event-index l.events) l.self ≡ marked_all l.world l.clock l.events l.fn.self)
