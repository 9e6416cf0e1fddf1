use Rattle.std.proofs.Common.{false}
use Rattle.ghs_hand.proofs.Ending.{among_all, gone_on, stopped}
use Rattle.ghs_hand.proofs.going.go_among_all.Goals as goal

pub returns-in-Ok-Halted-clause-on : goal.returns-in-Ok-Halted-clause-on
returns-in-Ok-Halted-clause-on c =
    let ran = c.run_seeded in
    gone_on false c.args.seed c.args.world.now ran.new.world ran.result
    (among_all c.args.seed c.args.world.now ran.new.world c.seeded-schedule.result ran.new.schedule c.seeded-schedule.ensures ran.ensures.run)
    ran.ensures.run.graph c.in-Ok-Halted.field-0 c.in-Ok-Halted.is ran.ensures.halted

pub returns-in-Err-TurnLimit-clause-fault : goal.returns-in-Err-TurnLimit-clause-fault
returns-in-Err-TurnLimit-clause-fault c =
    let ran = c.run_seeded in
    stopped false c.args.seed c.args.world.now ran.new.world ran.result
    (among_all c.args.seed c.args.world.now ran.new.world c.seeded-schedule.result ran.new.schedule c.seeded-schedule.ensures ran.ensures.run)
    ran.ensures.run.graph c.in-Err-TurnLimit.field-0 c.turns.result _ c.in-Err-TurnLimit.is c.in-Err-TurnLimit.field-0-is
    ran.ensures.fault ran.ensures.going
    ran.ensures.run.turns ran.ensures.run.numbers c.requires.numbers c.turns.ensures.fits c.turns.ensures.few
