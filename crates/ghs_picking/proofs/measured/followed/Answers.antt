use Rattle.std.proofs.Common.{ap, subst}
use Rattle.std.specs.Prelude.{Err}
use Rattle.ghs_world.specs.WorldState.{WorldState}
use Rattle.ghs_picking.specs.Picking.{IsPickedBy}
use Rattle.ghs_picking.proofs.Happening.{ended_well, stopped_well}
use Rattle.ghs_picking.proofs.measured.followed.Goals as goal

pub returns-in-Ok-clause-lengths : goal.returns-in-Ok-clause-lengths
returns-in-Ok-clause-lengths c =
    let kept = c.in-Ok.ensures.kept (ended_well c.in-Ok.field-0) in
    c.lengths_in.ensures c.run_followed.new.world.net.graph c.run_followed.new.world.net.trace kept.0 kept.1

pub returns-in-Err-TurnLimit-clause-lengths : goal.returns-in-Err-TurnLimit-clause-lengths
returns-in-Err-TurnLimit-clause-lengths c =
    let kept = c.in-Err-TurnLimit.ensures.kept (stopped_well c.in-Err-TurnLimit.field-0 c.in-Err-TurnLimit.field-0-is) in
    c.lengths_in-in-Err-TurnLimit.ensures c.run_followed.new.world.net.graph c.run_followed.new.world.net.trace kept.0 kept.1

pub returns-in-Ok-clause-run : goal.returns-in-Ok-clause-run
returns-in-Ok-clause-run c = subst
    (λ (s : WorldState). IsPickedBy c.args.schedule_kind c.args.seed s.wake s.turns s.net.graph c.run_followed.new.world.net.trace)
    c.recall_all.ensures c.in-Ok.ensures.whole

pub returns-in-Err-TurnLimit-clause-run : goal.returns-in-Err-TurnLimit-clause-run
returns-in-Err-TurnLimit-clause-run c = subst
    (λ (s : WorldState). IsPickedBy c.args.schedule_kind c.args.seed s.wake s.turns s.net.graph c.run_followed.new.world.net.trace)
    c.recall_all.ensures (c.in-Err-TurnLimit.ensures.limit (ap Err c.in-Err-TurnLimit.field-0-is))
